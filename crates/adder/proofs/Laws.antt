-- The laws of the sum: of one digit, of a byte by its two digits, and of the answer. Assumes nothing.
use Prim.Native.Nat.{ℕ, ◌+◌, ◌-◌, ◌*◌, ◌/◌, ◌%◌, ◌≤◌, ◌<◌}
use mathlib.Core.Path.{◌≡◌, refl, ap, ◌∙◌}
use mathlib.Core.Bool.{Bool, true, false, cond, not, ◌&&◌}
use mathlib.Core.Logic.{◌↔◌}
use native.Mathlib.Nat.{lt_of_le_of_lt}
use native.Mathlib.Omega.{arith}
use lib.Bits.{and_le_l, or_lt, xor_lt}
use lib.Dec.{leb}
use lib.Pow.{field, mod-mod-pow}
use borrow.Author.Tests.{leb-true, leb-false, le-leb, eqb-true, eq-eqb}
use Rattle.digits.specs.Bits.{one}
use Rattle.digits.proofs.Bits.{one_lt}
use Rattle.digits.specs.Digits.{high, low, digits, both_decimal, val}
use Rattle.rule.specs.Correction.{lowered}
use Rattle.rule.proofs.Laws.{lowered_lt}
use Rattle.adder.specs.Gates.{gated_a, gated_b}
use Rattle.adder.specs.Adder.{is_decimal, is_complement, complement, turned, sixes, summed, result_of, finished, carry_into, operations, entering_b, sum_of}
use Rattle.adder.specs.declared.Controls.{Controls}
use Rattle.adder.specs.declared.Uncorrected.{Uncorrected}
use Rattle.adder.specs.declared.Sum.{Sum}
use Rattle.digits.proofs.Table.{any}
use Rattle.digits.proofs.Truth.{both, same_test}
use Rattle.adder.proofs.Gates.{gated_a_lt, gated_b_lt}

-- the answer of a sum, whatever was judged of its inputs
abbrev pub arithmetic : Bool → ℕ → ℕ → ℕ → Sum
arithmetic decimal a b carry = finished false (summed decimal a b carry)

-- ---- one digit

-- what a digit's sum leaves when corrected by its own carry, and that carry
abbrev pub left : ℕ → ℕ
left sum = lowered (leb 16 sum) (sum % 16)

abbrev pub carry : ℕ → ℕ
carry sum = one (leb 16 sum)

-- with six in the sum, it leaves a decimal digit and a decimal carry
pub digit : (n : ℕ) → n ≤ 19 → (left (n + 6) ≤ 9) × (left (n + 6) + 10 * carry (n + 6) ≡ n)
digit n h = by (leb 16 (n + 6)) refl
  where
    by : (c : Bool) → leb 16 (n + 6) ≡ c → (lowered c ((n + 6) % 16) ≤ 9) × (lowered c ((n + 6) % 16) + 10 * one c ≡ n)
    by true e = let t = leb-true 16 (n + 6) e in (omega arith, omega arith)
    by false e = let t = leb-false 16 (n + 6) e in (omega arith, omega arith)

-- ---- a byte, by its two digits

carry_is : (sum : ℕ) → sum < 32 → sum / 16 ≡ carry sum
carry_is sum h = by (leb 16 sum) refl
  where
    by : (t : Bool) → leb 16 sum ≡ t → sum / 16 ≡ one t
    by true e = let t = leb-true 16 sum e in omega arith
    by false e = let t = leb-false 16 sum e in omega arith

-- the sums of the low and of the high digits
abbrev lows : ℕ → ℕ → ℕ → ℕ
lows a b c = low a + low b + c

abbrev highs : ℕ → ℕ → ℕ → ℕ
highs a b c = high a + high b + carry (lows a b c)

module _ (a b c : ℕ) (h : lows a b c < 32) where
  sum_high : (a + b + c) / 16 ≡ highs a b c
  sum_high = let k = carry_is (lows a b c) h in omega arith

  low_of : low ((a + b + c) % 256) ≡ lows a b c % 16
  low_of = mod-mod-pow (a + b + c) 4 4 ∙ omega arith

  high_of : high ((a + b + c) % 256) ≡ highs a b c % 16
  high_of = field (a + b + c) 4 4 ∙ ap (λ (n : ℕ). n % 16) sum_high

  carry_of : leb 256 (a + b + c) ≡ leb 16 (highs a b c)
  carry_of = same_test 256 (a + b + c) 16 ((a + b + c) / 16) (λ y. omega arith) (λ n. omega arith) ∙ ap (leb 16) sum_high

  corrected_is : (arithmetic true a b c).result ≡ digits (left (highs a b c)) (left (lows a b c))
  unfolding summed result_of
  corrected_is = λ i. digits (lowered (carry_of i) (high_of i)) (lowered (leb 16 (lows a b c)) (low_of i))

  carry_out : one (arithmetic true a b c).ac ≡ carry (highs a b c)
  unfolding summed
  carry_out = ap one carry_of

-- ---- decimal sums

-- the result's two decimal digits and AC write the number n
pub record Writes (s : Sum) (n : ℕ) : Type 0 where
  pub value : val s.result + 100 * one s.ac ≡ n
  pub decimal : both_decimal s.result ≡ true

pub both_at_most : (byte : ℕ) → both_decimal byte ≡ true → (high byte ≤ 9) × (low byte ≤ 9)
both_at_most byte d =
    let (h, l) = both (leb (high byte) 9) (leb (low byte) 9) d in
    (leb-true (high byte) 9 h, leb-true (low byte) 9 l)

module _ (h l : ℕ) (hd : h ≤ 9) (ld : l ≤ 9) where
  high_digit : high (digits h l) ≡ h
  high_digit = omega arith

  low_digit : low (digits h l) ≡ l
  low_digit = omega arith

  pub digits_val : val (digits h l) ≡ 10 * h + l
  digits_val = rw (high_digit, low_digit)

  pub digits_decimal : both_decimal (digits h l) ≡ true
  digits_decimal = rw (high_digit, low_digit, le-leb h 9 hd, le-leb l 9 ld)

-- six more in each digit: what true decimal makes of B, and complement of the digits that B's lack of 9
abbrev raised : ℕ → ℕ
raised w = digits (high w + 6) (low w + 6)

module _ (a w c : ℕ) (ad : (high a ≤ 9) × (low a ≤ 9)) (wd : (high w ≤ 9) × (low w ≤ 9)) (bit : c < 2) where
  abbrev low_n : ℕ
  low_n = low a + low w + c

  abbrev high_n : ℕ
  high_n = high a + high w + carry (low_n + 6)

  raised_low : low (raised w) ≡ low w + 6
  raised_low = omega arith

  raised_high : high (raised w) ≡ high w + 6
  raised_high = omega arith

  low_sum_lem : lows a (raised w) c ≡ low_n + 6
  low_sum_lem = rw raised_low (omega arith)

  high_sum_lem : highs a (raised w) c ≡ high_n + 6
  high_sum_lem = rw (low_sum_lem, raised_high) (omega arith)

  raised_writes : Writes (arithmetic true a (raised w) c) (val a + val w + c)
  raised_writes =
      let l = digit low_n (omega arith) in
      let h = digit high_n (omega (arith, one_lt (leb 16 (low_n + 6)))) in
      let fits : lows a (raised w) c < 32 = rw low_sum_lem (omega arith) in
      let r : (arithmetic true a (raised w) c).result ≡ digits (left (high_n + 6)) (left (low_n + 6)) =
      corrected_is a (raised w) c fits ∙ (λ i. digits (left (high_sum_lem i)) (left (low_sum_lem i))) in
      let k : one (arithmetic true a (raised w) c).ac ≡ carry (high_n + 6) = carry_out a (raised w) c fits ∙ ap carry high_sum_lem in
      record {
        value = rw (r, k, digits_val (left (high_n + 6)) (left (low_n + 6)) h.0 l.0) (omega arith);
        decimal = rw r (digits_decimal (left (high_n + 6)) (left (low_n + 6)) h.0 l.0);
      }

sixes_raise : (b : ℕ) → (high b ≤ 9) × (low b ≤ 9) → sixes b ≡ raised b
sixes_raise b d = omega arith

-- what the digits lack of 9
abbrev nines : ℕ → ℕ
nines b = digits (9 - high b) (9 - low b)

module _ (b : ℕ) (d : (high b ≤ 9) × (low b ≤ 9)) where
  nines_high : high (nines b) ≡ 9 - high b
  nines_high = high_digit (9 - high b) (9 - low b) (omega arith) (omega arith)

  nines_low : low (nines b) ≡ 9 - low b
  nines_low = low_digit (9 - high b) (9 - low b) (omega arith) (omega arith)

  nines_val : val (nines b) ≡ 99 - val b
  nines_val = rw (nines_high, nines_low) (omega arith)

  complement_raises : complement b ≡ raised (nines b)
  complement_raises = rw (nines_high, nines_low) (omega arith)

module _ (a b c : ℕ) (ad : both_decimal a ≡ true) (bd : both_decimal b ≡ true) (bit : c < 2) where
  pub decimal_sum : Writes (arithmetic true a (sixes b) c) (val a + val b + c)
  decimal_sum = let d = both_at_most b bd in rw (sixes_raise b d) (raised_writes a b c (both_at_most a ad) d bit)

  pub decimal_difference : Writes (arithmetic true a (complement b) c) (val a + (99 - val b) + c)
  decimal_difference =
      let d = both_at_most b bd in
      let nd : (high (nines b) ≤ 9) × (low (nines b) ≤ 9) = rw (nines_high b d, nines_low b d) (omega arith, omega arith) in
      rw (complement_raises b d, ← nines_val b d) (raised_writes a (nines b) c (both_at_most a ad) nd bit)

-- ---- binary sums

pub binary_sum : (a b c : ℕ) → a < 256 → b < 256 → c < 2 → let s = arithmetic false a b c in s.result + 256 * one s.ac ≡ a + b + c
unfolding summed result_of
binary_sum a b c ab bb bit = by (leb 256 (a + b + c)) refl
  where
    by : (t : Bool) → leb 256 (a + b + c) ≡ t → (a + b + c) % 256 + 256 * one t ≡ a + b + c
    by true e = let t = leb-true 256 (a + b + c) e in omega arith
    by false e = let t = leb-false 256 (a + b + c) e in omega arith

-- ---- every answer

pub arithmetic_byte : (decimal : Bool) (a b c : ℕ) → (arithmetic decimal a b c).result < 256
unfolding summed result_of
arithmetic_byte false a b c = omega arith
arithmetic_byte true a b c =
    let byte : ℕ = (a + b + c) % 256 in
    let h = lowered_lt (leb 256 (a + b + c)) (high byte) (omega arith) in
    let l = lowered_lt (leb 16 (lows a b c)) (low byte) (omega arith) in
    omega arith

turned_byte : (complemented : Bool) (b : ℕ) → b < 256 → turned complemented b < 256
turned_byte true b h = omega arith
turned_byte false b h = h

entering_byte : (six complemented : Bool) (b : ℕ) → b < 256 → cond six (sixes b) (turned complemented b) < 256
entering_byte true complemented b h = omega arith
entering_byte false complemented b h = turned_byte complemented b h

module _ (a b : ℕ) (c : Controls) where
  abbrev the_a : ℕ
  the_a = gated_a c.cf a

  abbrev the_b : ℕ
  the_b = entering_b (gated_b c.cg b) c

  -- bytes stay bytes, in each row of CC
  pub sum_byte : a < 256 → b < 256 → (sum_of a b c).result < 256
  unfolding sum_of result_of
  sum_byte ab bb =
      let decimal = is_decimal c.cv c.cc in
      let carry = carry_into c.cc c.s3 in
      let x = gated_a_lt c.cf a ab in
      let e = entering_byte (decimal && not (is_complement c.cv c.s0)) (is_complement c.cv c.s0) (gated_b c.cg b) (gated_b_lt c.cg b bb) in
      let sum = arithmetic_byte decimal the_a the_b (one carry) in
      let and = lt_of_le_of_lt (and_le_l the_a the_b) x in
      let or = or_lt 8 the_a the_b x e in
      let xor = xor_lt 8 the_a the_b x e in
      any (λ (u : Uncorrected). result_of u < 256) (operations decimal the_a the_b carry) (summed decimal the_a the_b (one carry)) (sum, (sum, (and, (or, (sum, (sum, (sum, (xor, tt)))))))) sum c.cc

  pub zero_exactly : ((sum_of a b c).z0 ≡ true) ↔ ((sum_of a b c).result ≡ 0)
  unfolding sum_of
  zero_exactly = (λ z. eqb-true _ 0 z, λ r. eq-eqb _ 0 r)
