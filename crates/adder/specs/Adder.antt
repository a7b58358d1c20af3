-- The sum of A and B as gated, its correction, and the logical operations. A code beyond its field's width acts as code 0. Assumes nothing.
use Rattle.std.specs.Prelude.{ℕ, ◌+◌, ◌-◌, ◌%◌, List, [], ◌∷◌, Bool, true, false, cond, not, ◌&&◌, ◌||◌, eqb, leb, get_or}
use Rattle.std.specs.Int.Bits.{bit_and, bit_or, bit_xor}
use Rattle.digits.specs.Bits.{one}
use Rattle.digits.specs.Digits.{high, low, digits, both_decimal}
use Rattle.rule.specs.Correction.{corrected}
use Rattle.adder.specs.Gates.{gated_a, gated_b}
use Rattle.adder.specs.declared.Controls.{Controls}
use Rattle.adder.specs.declared.Uncorrected.{Uncorrected}
use Rattle.adder.specs.declared.Sum.{Sum}
use Rattle.adder.specs.declared.Work.{Work}

-- "CV: 0 true, 1 complement, 2 true or complement as S0 is 0 or 1, 3 the same choice with decimal."
abbrev pub is_complement : ℕ → Bool → Bool
is_complement cv s0 = get_or (false ∷ true ∷ s0 ∷ s0 ∷ []) cv false

-- "CC: .. 2 AND, 3 OR, .. 7 XOR."
abbrev pub is_logical : ℕ → Bool
is_logical cc = eqb cc 2 || (eqb cc 3 || eqb cc 7)

-- "3 the same choice with decimal"; "Logical operations .. make no decimal change"
abbrev pub is_decimal : ℕ → ℕ → Bool
is_decimal cv cc = eqb cv 3 && not (is_logical cc)

-- "a digit over 9 on either input of a decimal cycle, as gated and before any complement or six"; "In binary .. the invalid lamp is off"
abbrev pub is_invalid : Bool → ℕ → ℕ → Bool
is_invalid decimal a b = decimal && not (both_decimal a && both_decimal b)

-- "Complement turns every bit of gated B."
abbrev pub complement : ℕ → ℕ
complement b = 255 - b

-- B after the complement, where there is one
abbrev pub turned : Bool → ℕ → ℕ
turned complemented b = cond complemented (complement b) b

-- "Decimal true adds six to each digit of B, modulo 16 in each digit"
abbrev pub sixes : ℕ → ℕ
sixes b = digits ((high b + 6) % 16) ((low b + 6) % 16)

-- B as it enters: "Logical operations use B after the complement"; "decimal complement adds none, since 15 less a digit already carries it."
abbrev pub entering : Bool → Bool → ℕ → ℕ
entering decimal complemented b = cond (decimal && not complemented) (sixes b) (turned complemented b)

-- "The sum is A + B + carry in. AC is set at 256 or more; 1BC when the low seven bits with the carry in reach 128.": of A as gated and B as
-- it enters, with "the carry between digits"
unfoldable pub summed : Bool → ℕ → ℕ → ℕ → Uncorrected
summed decimal a b carry =
    record {
      byte = (a + b + carry) % 256;
      ac = leb 256 (a + b + carry);
      one_bc = leb 128 (a % 128 + b % 128 + carry);
      digit_carry = leb 16 (low a + low b + carry);
      decimal = decimal;
    }

-- "Logical operations .. make no decimal change, and set AC and 1BC to 0."; "in logical cycles both [lamps] are off"
abbrev pub uncarried : ℕ → Uncorrected
uncarried byte = record { byte = byte; ac = false; one_bc = false; digit_carry = false; decimal = false }

-- "In decimal" the byte is corrected, by the carries out of its two digits
unfoldable pub result_of : Uncorrected → ℕ
result_of u = cond u.decimal (corrected u.digit_carry u.ac u.byte) u.byte

-- the answer, with what was judged of the inputs. "Z0 is set when the final result is 0."
abbrev pub finished : Bool → Uncorrected → Sum
finished invalid u =
    record {
      result = result_of u;
      ac = u.ac;
      one_bc = u.one_bc;
      z0 = eqb (result_of u) 0;
      uncorrected = u.byte;
      digit_carry = u.digit_carry;
      invalid = invalid;
    }

-- "CC: 0 +0, 1 +1, .. 4 +0 save, 5 +1 save, 6 +S3 save": the carry in, 0 in a logical operation
abbrev pub carry_into : ℕ → Bool → Bool
carry_into cc s3 =
    get_or
    (false ∷  -- 0
    true ∷  -- 1
    false ∷  -- 2
    false ∷  -- 3
    false ∷  -- 4
    true ∷  -- 5
    s3 ∷  -- 6
    false ∷  -- 7
    []) cc false

-- "CC: 0 +0, 1 +1, 2 AND, 3 OR, 4 +0 save, 5 +1 save, 6 +S3 save, 7 XOR."
abbrev pub operations : Bool → ℕ → ℕ → Bool → List Uncorrected
operations decimal a b carry =
    summed decimal a b (one carry) ∷  -- 0
    summed decimal a b (one carry) ∷  -- 1
    uncarried (bit_and a b) ∷  -- 2
    uncarried (bit_or a b) ∷  -- 3
    summed decimal a b (one carry) ∷  -- 4
    summed decimal a b (one carry) ∷  -- 5
    summed decimal a b (one carry) ∷  -- 6
    uncarried (bit_xor a b) ∷  -- 7
    []

abbrev pub operated : ℕ → Bool → ℕ → ℕ → Bool → Uncorrected
operated cc decimal a b carry = get_or (operations decimal a b carry) cc (summed decimal a b (one carry))

-- B as it enters, from B as gated
abbrev pub entering_b : ℕ → Controls → ℕ
entering_b b c = entering (is_decimal c.cv c.cc) (is_complement c.cv c.s0) b

-- what the arithmetic unit makes of the bytes that CA and CB chose
unfoldable pub sum_of : ℕ → ℕ → Controls → Sum
sum_of a b c =
    let decimal : Bool = is_decimal c.cv c.cc in
    let a : ℕ = gated_a c.cf a in
    let b : ℕ = gated_b c.cg b in
    finished (is_invalid decimal a b) (operated c.cc decimal a (entering_b b c) (carry_into c.cc c.s3))

-- and what it does on the way: A and B as chosen, as gated and as they enter, the carry in, and the sum before and after correction
unfoldable pub work_of : ℕ → ℕ → Controls → Work
work_of a b c =
    record {
      a_chosen = a;
      a_gated = gated_a c.cf a;
      b_chosen = b;
      b_gated = gated_b c.cg b;
      b_entering = entering_b (gated_b c.cg b) c;
      carry_in = carry_into c.cc c.s3;
      before = (sum_of a b c).uncorrected;
      after = (sum_of a b c).result;
    }
