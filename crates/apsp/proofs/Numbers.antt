-- Fields with a sign: their sizes by bytes and by digits, what is written, and the exact sum by its sign and size. Assumes nothing.
use Prim.Native.Nat.{ℕ, zero, suc, ◌+◌, ◌-◌, ◌*◌, ◌%◌, ◌^◌, ◌<◌, ◌≤◌}
use mathlib.Core.Path.{◌≡◌, refl, sym, ap, ◌∙◌}
use mathlib.Core.List.{List, [], ◌∷◌, ◌++◌, append_assoc}
use mathlib.Core.Bool.{Bool, true, false, cond, not}
use native.Mathlib.Omega.{arith}
use borrow.Author.Tests.{ltb-true, le-ltb}
use lib.Dec.{ltb}
use lib.IntN.{ℤ, pos, negsuc, neg_ℤ, ◌+ℤ◌, ◌-ℤ◌, neg_ℤ-neg_ℤ, neg_ℤ-+ℤ}
use lib.ListN.{length, get_or, take, drop, length-append, length-drop}
use lib.Seq.{take-suc, take_at, get_or_at, get_or-drop, length-take-le}
use Rattle.digits.specs.Digits.{high, low}
use Rattle.digits.specs.Tens.{last_digits, tens}
use Rattle.digits.specs.Packed.{digits_in, in_bytes, signed, size_in, sign_in, signed_bytes}
use Rattle.digits.proofs.Table.{Below, each_append}
use Rattle.digits.proofs.Tens.{tens_snoc, last_mod}
use Rattle.digits.proofs.Packed.{length_digits_in, digits_snoc, read_back}
use Rattle.digits.proofs.Truth.{zero_one}
use Rattle.adder.proofs.Laws.{both_at_most}
use Rattle.decimal.specs.Value.{value}
use Rattle.decimal.proofs.Fields.{Sound}
use Rattle.apsp.specs.Numbers.{field}
use Rattle.apsp.specs.Promise.{turned_by}
use Rattle.apsp.proofs.Amounts.{size_at}

-- ---- the bytes of a field, one more

module _ (main : List ℕ) (a n : ℕ) (h : a + n < length main) where
  field_snoc : field main a (suc n) ≡ field main a n ++ (get_or main (a + n) 0 ∷ [])
  field_snoc = take-suc (drop a main) n 0 (rw (length-drop a main) (omega arith)) ∙ ap (λ (b : ℕ). field main a n ++ (b ∷ [])) (get_or-drop a main n 0)

  digits_field : digits_in (field main a (suc n)) ≡ digits_in (field main a n) ++ (high (get_or main (a + n) 0) ∷ low (get_or main (a + n) 0) ∷ [])
  digits_field = ap digits_in field_snoc ∙ digits_snoc (field main a n) (get_or main (a + n) 0)

-- two digits more
two_more : (ds : List ℕ) (h l : ℕ) → tens (ds ++ (h ∷ l ∷ [])) ≡ tens ds * 100 + (10 * h + l)
two_more ds h l =
    ap tens (sym (append_assoc ds (h ∷ []) (l ∷ []))) ∙ tens_snoc 0 (ds ++ (h ∷ [])) l ∙ ap (λ (n : ℕ). n * 10 + l) (tens_snoc 0 ds h) ∙ omega arith

-- its digits write its value
value_tens : (main : List ℕ) (a n : ℕ) → a + n ≤ length main → tens (digits_in (field main a n)) ≡ value main a n
unfolding value
value_tens main a zero h = refl
value_tens main a (suc n) h =
    ap tens (digits_field main a n (omega arith)) ∙ two_more (digits_in (field main a n)) (high (get_or main (a + n) 0)) (low (get_or main (a + n) 0))
    ∙ ap (λ (v : ℕ). v * 100 + (10 * high (get_or main (a + n) 0) + low (get_or main (a + n) 0))) (value_tens main a n (omega arith))

-- they are decimal
digits_below : (main : List ℕ) (a n : ℕ) → a + n ≤ length main → Sound main a n → Below 10 (digits_in (field main a n))
digits_below main a zero h d = tt
digits_below main a (suc n) h d =
    let b = both_at_most (get_or main (a + n) 0) (d n (omega arith)) in
    rw (digits_field main a n (omega arith))
    (each_append (λ (x : ℕ). x < 10) (digits_in (field main a n)) (high (get_or main (a + n) 0) ∷ low (get_or main (a + n) 0) ∷ [])
    (digits_below main a n (omega arith) (λ i l. d i (omega arith))) (omega arith, (omega arith, tt)))

-- ---- a field of m + 1 bytes: 2m + 1 digits and a sign

module _ (main : List ℕ) (a m : ℕ) (h : a + suc m ≤ length main) where
  abbrev x : ℕ
  x = get_or main (a + m) 0

  abbrev ds : List ℕ
  ds = digits_in (field main a m) ++ (high x ∷ [])

  ds_length : length ds ≡ 2 * m + 1
  ds_length =
      length-append (digits_in (field main a m)) (high x ∷ [])
      ∙ ap (λ (n : ℕ). n + 1) (length_digits_in (field main a m) ∙ ap (λ (n : ℕ). 2 * n) (length-take-le m (drop a main) (rw (length-drop a main) (omega arith))))

  split : digits_in (field main a (suc m)) ≡ ds ++ (low x ∷ [])
  split = digits_field main a m (omega arith) ∙ sym (append_assoc (digits_in (field main a m)) (high x ∷ []) (low x ∷ []))

  front : take (2 * m + 1) (digits_in (field main a (suc m))) ≡ ds
  front = ap (take (2 * m + 1)) split ∙ take_at ds (low x ∷ []) (2 * m + 1) ds_length

  pub size_is : size_in (2 * m + 1) (field main a (suc m)) ≡ size_at main a m
  size_is = ap tens front ∙ tens_snoc 0 (digits_in (field main a m)) (high x) ∙ ap (λ (v : ℕ). v * 10 + high x) (value_tens main a m (omega arith))

  pub sign_is : sign_in (2 * m + 1) (field main a (suc m)) ≡ low x
  sign_is = ap (λ (l : List ℕ). get_or l (2 * m + 1) 0) split ∙ get_or_at ds (low x) [] 0 (2 * m + 1) ds_length

  -- where its digits are decimal it is what would be written of them
  pub field_is : (size sign : ℕ) → Sound main a m → high x ≤ 9 → low x ≡ sign → size_at main a m ≡ size % 10 ^ (2 * m + 1) → field main a (suc m) ≡ signed_bytes (2 * m + 1) size sign
  field_is size sign d hx s e =
      let small : high x < 10 = omega arith in
      let k : ℕ = 2 * m + 1 in
      read_back m (field main a (suc m)) (length-take-le (suc m) (drop a main) (rw (length-drop a main) (omega arith)))
      (rw front (each_append (λ (n : ℕ). n < 10) (digits_in (field main a m)) (high x ∷ []) (digits_below main a m (omega arith) d) (small, tt)))
      ∙ (λ i. in_bytes (last_digits k ((size_is ∙ e) i) ++ ((sign_is ∙ s) i ∷ [])))
      ∙ ap (λ (l : List ℕ). in_bytes (l ++ (sign ∷ []))) (last_mod k size)

-- ---- the exact sum by sign and size

-- one size less another
less : (x y : ℕ) → pos x +ℤ neg_ℤ (pos y) ≡ cond (ltb x y) (neg_ℤ (pos (y - x))) (pos (x - y))
less x zero = rw (le-ltb x 0 (omega arith)) (ap pos (omega arith))
less x (suc y) = by (ltb x (suc y)) refl
  where
    by : (t : Bool) → ltb x (suc y) ≡ t → cond t (negsuc (suc y - suc x)) (pos (x - suc y)) ≡ cond t (neg_ℤ (pos (suc y - x))) (pos (x - suc y))
    by true e = let k : suc (suc y - suc x) ≡ suc y - x = omega (arith, ltb-true x (suc y) e) in ap (λ (n : ℕ). neg_ℤ (pos n)) k
    by false e = refl

-- subtracting is adding with the other sign
module _ (z : ℤ) (y : ℕ) where
  pub as_sum : (minus subtract : Bool) → cond subtract (z -ℤ signed minus y) (z +ℤ signed minus y) ≡ z +ℤ signed (turned_by minus subtract) y
  as_sum true true = ap (λ (w : ℤ). z +ℤ w) (neg_ℤ-neg_ℤ (pos y))
  as_sum false true = refl
  as_sum true false = refl
  as_sum false false = refl

-- of one sign, and of two
module _ (x y : ℕ) where
  pub sum_exact : (m₁ m₂ : Bool) → turned_by m₁ m₂ ≡ false → signed m₁ x +ℤ signed m₂ y ≡ signed m₁ (x + y)
  sum_exact false false e = refl
  sum_exact true true e = sym (neg_ℤ-+ℤ (pos x) (pos y))
  sum_exact true false e = absurd (zero_one cc)
  sum_exact false true e = absurd (zero_one cc)

  pub difference_exact : (m₁ m₂ : Bool) → turned_by m₁ m₂ ≡ true → signed m₁ x +ℤ signed m₂ y ≡ cond (ltb x y) (signed (not m₁) (y - x)) (signed m₁ (x - y))
  difference_exact false true e = less x y
  difference_exact true false e =
      ap (λ (w : ℤ). neg_ℤ (pos x) +ℤ w) (sym (neg_ℤ-neg_ℤ (pos y))) ∙ sym (neg_ℤ-+ℤ (pos x) (neg_ℤ (pos y))) ∙ ap neg_ℤ (less x y) ∙ by (ltb x y)
    where
      by : (t : Bool) → neg_ℤ (cond t (neg_ℤ (pos (y - x))) (pos (x - y))) ≡ cond t (pos (y - x)) (neg_ℤ (pos (x - y)))
      by true = neg_ℤ-neg_ℤ (pos (y - x))
      by false = refl
  difference_exact true true e = absurd (zero_one cc)
  difference_exact false false e = absurd (zero_one cc)
