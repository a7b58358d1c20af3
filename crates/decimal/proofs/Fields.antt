-- The laws of a field: its digits by place, its value, and a sum by quotient and remainder. Assumes nothing.
use Prim.Native.Nat.{ℕ, zero, suc, ◌+◌, ◌*◌, ◌/◌, ◌%◌, ◌^◌, ◌<◌}
use mathlib.Core.Path.{◌≡◌, refl, sym, ap, ◌∙◌}
use mathlib.Core.List.{List}
use mathlib.Core.Bool.{Bool, true}
use native.Mathlib.Nat.{add-zero, pow-suc, mul_comm}
use native.Mathlib.Omega.{arith}
use lib.Arith.{digits_div, digits_mod}
use lib.ListN.{get_or}
use Rattle.digits.specs.Bits.{one}
use Rattle.digits.specs.Digits.{both_decimal}
use Rattle.digits.proofs.Truth.{both}
use Rattle.adder.proofs.Laws.{both_at_most}
use Rattle.decimal.specs.Value.{value, decimal_field}

-- n bytes from a on are decimal
abbrev pub Sound : List ℕ → ℕ → ℕ → Type 0
Sound main a n = (i : ℕ) → i < n → both_decimal (get_or main (a + i) 0) ≡ true

-- a field of decimal digits, byte by byte
pub field_sound : (main : List ℕ) (a n : ℕ) → decimal_field main a n ≡ true → Sound main a n
field_sound main a zero d i h = absurd (omega arith)
field_sound main a (suc n) d zero h = rw add-zero (both (both_decimal (get_or main a 0)) (decimal_field main (a + 1) n) d).0
field_sound main a (suc n) d (suc i) h =
    let e : a + 1 + i ≡ a + suc i = omega arith in
    rw e at (field_sound main (a + 1) n (both (both_decimal (get_or main a 0)) (decimal_field main (a + 1) n) d).1 i (omega arith))

pub sound_field : (main : List ℕ) (a n : ℕ) → Sound main a n → decimal_field main a n ≡ true
sound_field main a zero s = refl
sound_field main a (suc n) s =
    let d : both_decimal (get_or main a 0) ≡ true = rw add-zero at (s 0 (omega arith)) in
    rw d (sound_field main (a + 1) n (λ i h. let e : a + 1 + i ≡ a + suc i = omega arith in rw e (s (suc i) (omega arith))))

-- n bytes write less than 100^n
pub value_lt : (main : List ℕ) (a n : ℕ) → Sound main a n → value main a n < 100 ^ n
unfolding value
value_lt main a zero s = omega arith
value_lt main a (suc n) s =
    let v = value_lt main a n (λ i h. s i (omega arith)) in
    let b = both_at_most (get_or main (a + n) 0) (s n (omega arith)) in
    rw pow-suc (omega arith)

-- the same bytes write the same
pub value_same : (s t : List ℕ) (a n : ℕ) → ((j : ℕ) → j < n → get_or s (a + j) 0 ≡ get_or t (a + j) 0) → value s a n ≡ value t a n
unfolding value
value_same s t a zero h = refl
value_same s t a (suc n) h = rw (value_same s t a n (λ j k. h j (omega arith)), h n (omega arith))

-- a value and a carry above it
module _ (v p sum : ℕ) (k : Bool) (h : v < p) (e : v + p * one k ≡ sum) where
  parts : one k * p + v ≡ sum
  parts = omega (arith, mul_comm p (one k))

  pub remainder : v ≡ sum % p
  remainder = sym (digits_mod (one k) h) ∙ ap (λ (n : ℕ). n % p) parts

  pub quotient : one k ≡ sum / p
  quotient = sym (digits_div (one k) h) ∙ ap (λ (n : ℕ). n / p) parts
