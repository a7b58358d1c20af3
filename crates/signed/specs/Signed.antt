-- Signed read-out: "Fields are 8 bytes, fifteen digits and a sign". Assumes nothing.
use Rattle.std.specs.Prelude.{ℕ, suc, ◌^◌, List, [], ◌∷◌, Bool, cond, not, eqb, ltb, leb, ℤ, nat_abs, length, take, Result, Ok, Err}
use Rattle.digits.specs.Refusal.{Check, first, answer}
use Rattle.digits.specs.Packed.{digits_in, sign_of, is_none, preferred, below_zero, sign_in, signed_in, signed_bytes}
use Rattle.digits.specs.declared.refusal.Refusal.{Refusal}
use Rattle.digits.specs.declared.refusal.Refusal.TheVariants as R

-- the greatest "signed 64-bit number"
abbrev pub greatest : ℕ
greatest = 9223372036854775807

-- "fifteen digits"
abbrev pub fifteen : List ℕ → List ℕ
fifteen field = take 15 (digits_in field)

-- "and a sign"
abbrev pub sign_digit : List ℕ → ℕ
sign_digit field = sign_in 15 field

-- "33 a lent field of other than 8 bytes"
abbrev pub field_wrong : List ℕ → Bool
field_wrong field = not (eqb (length field) 8)

-- ---- reading

-- the place of the first digit over 9, counted from i; the place past them where none is
abbrev pub over_nine : ℕ → List ℕ → ℕ
over_nine i [] = i
over_nine i (d ∷ ds) = cond (ltb 9 d) i (over_nine (suc i) ds)

-- among the first fifteen, counted from 0
abbrev pub bad_place : List ℕ → ℕ
bad_place field = over_nine 0 (fifteen field)

-- "33 .., first; then 25 a digit over 9 in the first fifteen places, 26 a sign digit below A"
abbrev pub read_signed_checks : List ℕ → List (Check Refusal)
read_signed_checks field = (R.SignedLength, field_wrong field) ∷ (R.Digit, ltb (bad_place field) 15) ∷ (R.Sign, is_none (sign_of (sign_digit field))) ∷ []

-- its number
abbrev pub number_in : List ℕ → ℤ
number_in field = signed_in 15 field

-- "The read-out gives a signed 64-bit number"
unfoldable pub read_signed : List ℕ → Result ℤ Refusal
read_signed field = answer (first (read_signed_checks field)) Err (Ok (number_in field))

-- ---- writing

-- "takes only numbers of at most fifteen digits"
abbrev pub too_large : ℤ → Bool
too_large number = leb (10 ^ 15) (nat_abs number)

-- "in writing, 33 then 27 number too large"
abbrev pub write_signed_checks : ℤ → List ℕ → List (Check Refusal)
write_signed_checks number field = (R.SignedLength, field_wrong field) ∷ (R.TooLong, too_large number) ∷ []

-- fifteen digits and a sign digit, two to a byte
unfoldable pub signed_field : ℕ → ℕ → List ℕ
signed_field size sign = signed_bytes 15 size sign

-- "The way back writes C or D, never D for zero"
abbrev pub field_for : ℤ → List ℕ
field_for number = signed_field (nat_abs number) (preferred (below_zero number))

unfoldable pub write_signed : ℤ → List ℕ → Result (Unit {0}) Refusal
write_signed number field = answer (first (write_signed_checks number field)) Err (Ok tt)

-- "the field unchanged" where it is refused
unfoldable pub field_after : ℤ → List ℕ → List ℕ
field_after number field = answer (first (write_signed_checks number field)) (λ r. field) (field_for number)
