-- What an addition came to, as text. Assumes nothing.
use Rattle.std.specs.Prelude.{ℕ, ◌+◌, ◌-◌, List, [], ◌∷◌, ◌++◌, Bool, true, false, cond, length, get_or, take}
use Rattle.digits.specs.Bits.{one}
use Rattle.digits.specs.Digits.{high, low}
use Rattle.digits.specs.Refusal.{refusal_number}
use Rattle.digits.specs.Packed.{sign_of, is_minus}
use Rattle.text.specs.Ascii.{ascii}
use Rattle.text.specs.Text.{hexadecimal, field_digits, decimal}
use Rattle.decimal.specs.declared.Added.{Added}
use Rattle.decimal.specs.declared.Added.TheVariants as D

-- ---- a sum

-- the digits of some bytes, and how the line ends
unfoldable pub told_of : List ℕ → List ℕ → List ℕ
told_of field end = ascii " = " ++ (field_digits field ++ end)

-- without signs it ends with the carry
abbrev pub carry_end : Bool → List ℕ
carry_end carry = ascii " CARRY " ++ ((48 + one carry) ∷ 10 ∷ [])

-- with signs the last byte is a digit and the sign, which is told as '+' or '-'; overflow is told after it
abbrev pub sign_mark : ℕ → ℕ
sign_mark digit = cond (is_minus (sign_of digit)) 45 43

abbrev pub signed_end : ℕ → Bool → List ℕ
signed_end byte overflow = hexadecimal 1 (high byte) ++ (sign_mark (low byte) ∷ cond overflow (ascii " OVERFLOW\n") (ascii "\n"))

-- the sum, as it stands in the first field, and the carry or the overflow
abbrev pub sum_of : Bool → List ℕ → Bool → List ℕ
sum_of false field carry = told_of field (carry_end carry)
sum_of true field overflow = told_of (take (length field - 1) field) (signed_end (get_or field (length field - 1) 0) overflow)

-- ---- the other endings

abbrev pub bad_of : Bool → List ℕ
bad_of signs = cond signs (ascii ": BAD DIGIT OR SIGN\n") (ascii ": BAD DIGIT\n")

abbrev pub refusal_of : ℕ → List ℕ
refusal_of number = ascii ": REFUSED " ++ (decimal number ++ (10 ∷ []))

-- what an addition came to, without signs or with them
unfoldable pub result_of : Bool → List ℕ → Added → List ℕ
result_of signs field (D.Summed mark count) = sum_of signs field mark
result_of signs field (D.BadDigit count) = bad_of signs
result_of signs field (D.Refused refusal) = refusal_of (refusal_number refusal)
