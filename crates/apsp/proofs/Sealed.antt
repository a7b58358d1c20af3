-- The first field after a pass, and with its sign. Assumes nothing.
use Prim.Native.Nat.{ℕ, zero, suc, ◌+◌, ◌*◌, ◌%◌, ◌^◌, ◌<◌, ◌≤◌}
use mathlib.Core.Path.{◌≡◌, refl, ap, ◌∙◌}
use mathlib.Core.List.{List}
use mathlib.Core.Bool.{Bool, true, false, cond}
use mathlib.Core.Logic.{◌≢◌, ◌⊎◌, ⊎_elim}
use native.Mathlib.Omega.{arith}
use native.Mathlib.Nat.{pow-suc}
use lib.ListN.{length, get_or, set, length-set}
use lib.Seq.{get_or-set_same, get_or-set_other}
use Rattle.digits.specs.Bits.{one}
use Rattle.digits.specs.Digits.{high, low}
use Rattle.digits.specs.Packed.{preferred, signed_bytes}
use Rattle.digits.proofs.Bits.{one_lt}
use Rattle.adder.proofs.Laws.{arithmetic, arithmetic_byte, binary_sum, both_at_most}
use Rattle.decimal.specs.Value.{value}
use Rattle.decimal.proofs.Fields.{Sound, value_same}
use Rattle.decimal.proofs.Stands.{Stands}
use Rattle.apsp.specs.Numbers.{field}
use Rattle.apsp.proofs.Amounts.{size_at}
use Rattle.apsp.proofs.After.{signed_last}
use Rattle.apsp.proofs.Numbers.{field_is}

-- the first number of more than 2m + 1 digits
abbrev pub limit : ℕ → ℕ
limit m = 10 * 100 ^ m

pub limit_is : (m : ℕ) → limit m ≡ 10 ^ (2 * m + 1)
limit_is zero = refl
limit_is (suc m) =
    let e : 2 * suc m + 1 ≡ suc (suc (2 * m + 1)) = omega arith in
    rw (e, pow-suc 10 (suc (2 * m + 1)), pow-suc 10 (2 * m + 1), ← limit_is m, pow-suc 100 m) (omega arith)

-- ---- after a pass

-- m + 1 decimal bytes, the sign's place 0: all that is summed is so many tens
module _ (less : Bool) (a m x y : ℕ) (main main' : List ℕ) (k : Bool) (st : Stands less a (suc m) main main' (10 * x) (10 * y) less k) where
  abbrev last : ℕ
  last = get_or main' (a + m) 0

  pub last_decimal : (high last ≤ 9) × (low last ≤ 9)
  last_decimal = both_at_most last (st.digits m (omega arith))

  pub last_zero : low last ≡ 0
  unfolding value
  last_zero = by less k (rw pow-suc at st.sum) last_decimal.1
    where
      by : (less k : Bool) → value main' a m * 100 + (10 * high last + low last) + 100 ^ m * 100 * one k + cond less (10 * y + 1) 0 ≡ 10 * x + cond less (100 ^ m * 100) (10 * y) + one less
          → low last ≤ 9 → low last ≡ 0
      by false false e h = omega arith
      by false true e h = omega arith
      by true false e h = omega arith
      by true true e h = omega arith

  -- the size that stands there, and the carry
  pub size_stands : size_at main' a m + limit m * one k + cond less y 0 ≡ x + cond less (limit m) y
  unfolding value
  size_stands = by less k (rw pow-suc at st.sum) last_zero
    where
      by : (less k : Bool) → value main' a m * 100 + (10 * high last + low last) + 100 ^ m * 100 * one k + cond less (10 * y + 1) 0 ≡ 10 * x + cond less (100 ^ m * 100) (10 * y) + one less
          → low last ≡ 0 → size_at main' a m + limit m * one k + cond less y 0 ≡ x + cond less (limit m) y
      by false false e z = omega arith
      by false true e z = omega arith
      by true false e z = omega arith
      by true true e z = omega arith

-- ---- with its sign

signed_byte_lem : (byte : ℕ) (minus : Bool) → high byte ≤ 9 → low byte ≡ 0 → signed_last byte minus ≡ high byte * 16 + preferred minus
signed_byte_lem byte minus h l = by minus (binary_sum byte (12 + one minus) 0 (omega arith) (omega (arith, one_lt minus)) (omega arith)) (one_lt (arithmetic false byte (12 + one minus) 0).ac) (arithmetic_byte false byte (12 + one minus) 0)
  where
    by : (minus : Bool) → let s = arithmetic false byte (12 + one minus) 0 in s.result + 256 * one s.ac ≡ byte + (12 + one minus) + 0 → one s.ac < 2 → s.result < 256 → s.result ≡ high byte * 16 + preferred minus
    by true e c r = omega arith
    by false e c r = omega arith

module _ (a m : ℕ) (main' : List ℕ) (minus : Bool) (inside : a + suc m ≤ length main') (digits : Sound main' a (suc m)) (zero-last : low (get_or main' (a + m) 0) ≡ 0) where
  abbrev byte : ℕ
  byte = get_or main' (a + m) 0

  abbrev pub main'' : List ℕ
  main'' = set main' (a + m) (signed_last byte minus)

  other : (j : ℕ) → j ≢ a + m → get_or main'' j 0 ≡ get_or main' j 0
  other j ne = get_or-set_other main' (a + m) j (signed_last byte minus) 0 ne

  pub sealed_others : (j : ℕ) → (j < a) ⊎ (a + suc m ≤ j) → get_or main'' j 0 ≡ get_or main' j 0
  sealed_others j w = other j (⊎_elim (λ h e. omega arith) (λ h e. omega arith) w)

  sealed_last : get_or main'' (a + m) 0 ≡ high byte * 16 + preferred minus
  sealed_last =
      get_or-set_same main' (a + m) (signed_last byte minus) 0 (omega arith)
      ∙ signed_byte_lem byte minus (both_at_most byte (digits m (omega arith))).0 zero-last

  digits_of_lem : (h : ℕ) (minus : Bool) → (high (h * 16 + preferred minus) ≡ h) × (low (h * 16 + preferred minus) ≡ preferred minus)
  digits_of_lem h true = (omega arith, omega arith)
  digits_of_lem h false = (omega arith, omega arith)

  high_kept : high (get_or main'' (a + m) 0) ≡ high byte
  high_kept = ap high sealed_last ∙ (digits_of_lem (high byte) minus).0

  pub sealed : (size : ℕ) → size_at main' a m ≡ size % limit m → field main'' a (suc m) ≡ signed_bytes (2 * m + 1) size (preferred minus)
  sealed size e =
      field_is main'' a m (rw (length-set main' (a + m) (signed_last byte minus)) inside) size (preferred minus)
      (λ i h. rw (other (a + i) (λ z. omega arith)) (digits i (omega arith))) (rw high_kept (both_at_most byte (digits m (omega arith))).0)
      (ap low sealed_last ∙ (digits_of_lem (high byte) minus).1)
      ((λ i. value_same main'' main' a m (λ j h. other (a + j) (λ z. omega arith)) i * 10 + high_kept i) ∙ e ∙ ap (λ (p : ℕ). size % p) (limit_is m))
