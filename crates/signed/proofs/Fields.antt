-- The places of a field, one after the other. Assumes nothing.
use Prim.Native.Nat.{ℕ, zero, suc, ◌+◌, ◌-◌, ◌*◌, ◌/◌, ◌%◌, ◌^◌, ◌<◌, ◌≤◌, min}
use mathlib.Core.Path.{◌≡◌, refl, sym, ap, ◌∙◌}
use mathlib.Core.List.{List, [], ◌∷◌, ◌++◌, append_assoc}
use Rattle.std.proofs.lemmas.List.{length-take}
use native.Mathlib.Nat.{min_comm, min-eq_right, pow-le-pow_right, pow-suc}
use native.Mathlib.Numerals.{add-one}
use native.Mathlib.Omega.{arith}
use lib.Dec.{lit<}
use borrow.Author.Tests.{lt-ltb, le-ltb}
use lib.ListN.{length, get_or, drop, length-append}
use lib.Seq.{drop-cons, get_or-take}
use Rattle.digits.specs.Digits.{high, low}
use Rattle.digits.specs.Packed.{digits_in, in_bytes}
use Rattle.digits.specs.Tens.{last_digits, tens_from}
use Rattle.digits.proofs.Packed.{length_digits_in, high_in, low_in, bytes_append}
use Rattle.digits.proofs.Tens.{length_last}
use Rattle.signed.specs.Signed.{fifteen, over_nine}

-- the digit at an even place, and at an odd one
pub even : (field : List ℕ) (place : ℕ) → place % 2 ≡ 0 → get_or (digits_in field) place 0 ≡ high (get_or field (place / 2) 0)
even field place e = let p : place ≡ 2 * (place / 2) = omega arith in ap (λ (i : ℕ). get_or (digits_in field) i 0) p ∙ high_in field (place / 2)

pub odd : (field : List ℕ) (place : ℕ) → (place % 2 ≡ 0 → ⊥) → get_or (digits_in field) place 0 ≡ low (get_or field (place / 2) 0)
odd field place h =
    let p : place ≡ 2 * (place / 2) + 1 = omega arith in ap (λ (i : ℕ). get_or (digits_in field) i 0) p ∙ low_in field (place / 2)

-- how many of the first fifteen there are
pub places : (field : List ℕ) → min (2 * length field) 15 ≡ length (fifteen field)
places field = min_comm (2 * length field) 15 ∙ sym (length-take 15 (digits_in field) ∙ ap (λ (n : ℕ). min 15 n) (length_digits_in field))

pub all : (field : List ℕ) → 8 ≤ length field → length (fifteen field) ≡ 15
all field h = sym (places field) ∙ min-eq_right (omega arith)

module _ (field : List ℕ) (place d : ℕ) (h : place < length (fifteen field)) (small : place < 15) (e : d ≡ get_or (digits_in field) place 0) where
  -- what is left of them begins with the digit at its place
  next : drop place (fifteen field) ≡ d ∷ drop (place + 1) (fifteen field)
  next = drop-cons (fifteen field) place 0 h ∙ rw (get_or-take 15 (digits_in field) place 0 small, e, add-one place)

  pub over_here : 9 < d → over_nine place (drop place (fifteen field)) ≡ place
  over_here l = rw (next, lt-ltb 9 d l)

  pub over_next : d ≤ 9 → over_nine place (drop place (fifteen field)) ≡ over_nine (place + 1) (drop (place + 1) (fifteen field))
  over_next l = rw (next, le-ltb 9 d l, add-one place)

  pub tens_next : (n : ℕ) → tens_from n (drop place (fifteen field)) ≡ tens_from (n * 10 + d) (drop (place + 1) (fifteen field))
  tens_next n = rw next

-- what so many digits write, each below 16
pub bound_next : (place n d : ℕ) → n + 2 ≤ 2 * 10 ^ place → d < 16 → n * 10 + d + 2 ≤ 2 * 10 ^ (place + 1)
bound_next place n d h s = rw (add-one place, pow-suc) (omega arith)

pub bound_within : (k place n : ℕ) → place ≤ k → n + 2 ≤ 2 * 10 ^ place → n + 2 ≤ 2 * 10 ^ k
bound_within k place n h b = let p = pow-le-pow_right {n = 10} (lit< tt) {i = place} {j = k} h in omega arith

-- ---- writing, from the last byte on

-- the digits of i bytes: a number's last, and one more that is given
abbrev pub ended : ℕ → ℕ → ℕ → List ℕ
ended zero rest low = []
ended (suc i) rest low = last_digits (suc (2 * i)) rest ++ (low ∷ [])

length_ended : (i rest low : ℕ) → length (ended i rest low) ≡ 2 * i
length_ended zero rest low = refl
length_ended (suc i) rest low =
    length-append (last_digits (suc (2 * i)) rest) (low ∷ []) ∙ rw (length_last (suc (2 * i)) rest) (omega arith)

-- all but the last two, and the last two
ended_step : (i rest low : ℕ) → ended (suc i) rest low ≡ ended i (rest / 100) (rest / 10 % 10) ++ (rest % 10 ∷ low ∷ [])
ended_step zero rest low = refl
ended_step (suc i) rest low =
    let two : 2 * suc i ≡ suc (suc (2 * i)) = omega arith in
    let ten : rest / 10 / 10 ≡ rest / 100 = omega arith in
    rw (two, ten) (append_assoc (last_digits (suc (2 * i)) (rest / 100) ++ (rest / 10 % 10 ∷ [])) (rest % 10 ∷ []) (low ∷ []))

pub last_byte_lem : (i rest low : ℕ) → 0 < i → in_bytes (ended i rest low) ≡ in_bytes (ended (i - 1) (rest / 100) (rest / 10 % 10)) ++ ((rest % 10 * 16 + low) ∷ [])
last_byte_lem zero rest low h = absurd (omega arith)
last_byte_lem (suc i) rest low h =
    let e : suc i - 1 ≡ i = omega arith in
    let front = ended i (rest / 100) (rest / 10 % 10) in
    rw (e, ended_step i rest low) (bytes_append i front (rest % 10 ∷ low ∷ []) (length_ended i (rest / 100) (rest / 10 % 10)))
