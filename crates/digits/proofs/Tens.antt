-- The laws of decimal digits, over their number: the last k digits of a number write it again, and digits are the last of the number that they write. Assumes nothing.
use Prim.Native.Nat.{ℕ, zero, suc, ◌+◌, ◌*◌, ◌/◌, ◌%◌, ◌^◌, ◌<◌}
use mathlib.Core.Path.{◌≡◌, refl, sym, ap, subst, ◌∙◌}
use mathlib.Core.List.{List, [], ◌∷◌, ◌++◌, append-nil, append_assoc}
use native.Mathlib.Nat.{zero-add, pow-suc, mod-lt, mod-eq_of_lt, one-le-pow}
use native.Mathlib.Numerals.{add-one}
use native.Mathlib.Omega.{arith}
use lib.Arith.{mod-mul}
use lib.Dec.{lit<}
use lib.ListN.{length, length-append}
use Rattle.digits.specs.Tens.{last_digits, tens_from, tens}
use Rattle.digits.proofs.Table.{Below, each_append}

pub length_last : (k n : ℕ) → length (last_digits k n) ≡ k
length_last zero n = refl
length_last (suc k) n = length-append (last_digits k (n / 10)) (n % 10 ∷ []) ∙ rw (length_last k (n / 10)) (add-one k)

pub last_below : (k n : ℕ) → Below 10 (last_digits k n)
last_below zero n = tt
last_below (suc k) n =
    let d : n % 10 < 10 = omega arith in
    each_append (λ (x : ℕ). x < 10) (last_digits k (n / 10)) (n % 10 ∷ []) (last_below k (n / 10)) (d, tt)

-- one digit more, at the low end
pub tens_snoc : (m : ℕ) (ds : List ℕ) (d : ℕ) → tens_from m (ds ++ (d ∷ [])) ≡ tens_from m ds * 10 + d
tens_snoc m [] d = refl
tens_snoc m (x ∷ ds) d = tens_snoc (m * 10 + x) ds d

-- the last k digits of a number write what it leaves of 10^k
pub tens_mod : (k n : ℕ) → tens (last_digits k n) ≡ n % 10 ^ k
tens_mod zero n = omega arith
tens_mod (suc k) n =
    tens_snoc 0 (last_digits k (n / 10)) (n % 10) ∙ rw (tens_mod k (n / 10), pow-suc) (sym (mod-mul n (one-le-pow k 10 (lit< tt)) (lit< tt)))

-- so a number below 10^k again
pub tens_last : (k n : ℕ) → n < 10 ^ k → tens (last_digits k n) ≡ n
tens_last k n h = tens_mod k n ∙ mod-eq_of_lt h

tens_last_lt : (k n : ℕ) → tens (last_digits k n) < 10 ^ k
tens_last_lt k n = rw (tens_mod k n) (mod-lt n (one-le-pow k 10 (lit< tt)))

-- digits after those of m
last_from : (ds : List ℕ) → Below 10 ds → (k m : ℕ) → last_digits (length ds + k) (tens_from m ds) ≡ last_digits k m ++ ds
last_from [] b k m = rw (zero-add k) (sym (append-nil (last_digits k m)))
last_from (d ∷ ds) b k m =
    let small = b.0 in
    let high : (m * 10 + d) / 10 ≡ m = omega arith in
    let low : (m * 10 + d) % 10 ≡ d = omega arith in
    let n : suc (length ds) + k ≡ length ds + suc k = omega arith in
    ap (λ (j : ℕ). last_digits j (tens_from (m * 10 + d) ds)) n
    ∙ last_from ds b.1 (suc k) (m * 10 + d)
    ∙ rw (high, low) (append_assoc (last_digits k m) (d ∷ []) ds)

-- digits are the last of the number that they write
pub last_tens : (k : ℕ) (ds : List ℕ) → length ds ≡ k → Below 10 ds → last_digits k (tens ds) ≡ ds
last_tens k ds e b = let n : length ds + 0 ≡ k = omega arith in rw n at (last_from ds b 0 0)

-- and it is below 10^k
pub tens_lt : (k : ℕ) (ds : List ℕ) → length ds ≡ k → Below 10 ds → tens ds < 10 ^ k
tens_lt k ds e b = subst (λ (l : List ℕ). tens l < 10 ^ k) (last_tens k ds e b) (tens_last_lt k (tens ds))

-- what a number leaves of 10^k has its last k digits
pub last_mod : (k n : ℕ) → last_digits k (n % 10 ^ k) ≡ last_digits k n
last_mod k n = ap (last_digits k) (sym (tens_mod k n)) ∙ last_tens k (last_digits k n) (length_last k n) (last_below k n)
