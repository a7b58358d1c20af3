-- Fields with a sign, by their lowest address and their length of n bytes: 2n - 1 digits and a sign digit. Assumes nothing.
use Rattle.std.specs.Prelude.{ℕ, ◌+◌, ◌-◌, ◌*◌, ◌^◌, List, Bool, cond, not, ◌&&◌, leb, ℤ, nat_abs, ◌+ℤ◌, ◌-ℤ◌, get_or, take, drop}
use Rattle.digits.specs.Digits.{high, low}
use Rattle.digits.specs.Packed.{sign_of, is_none, preferred, below_zero, signed_in, signed_bytes}
use Rattle.decimal.specs.Value.{decimal_field}

-- how many digits stand before the sign
abbrev pub places : ℕ → ℕ
places n = 2 * n - 1

abbrev pub field : List ℕ → ℕ → ℕ → List ℕ
field main a n = take n (drop a main)

-- the number that a field writes: the table of signs is that of the read-out
abbrev pub number : List ℕ → ℕ → ℕ → ℤ
number main a n = signed_in (places n) (field main a n)

-- its last byte
abbrev pub last_byte : List ℕ → ℕ → ℕ → ℕ
last_byte main a n = get_or main (a + (n - 1)) 0

-- that is a digit of 0 to 9 and a sign of A to F
abbrev pub signed_byte : ℕ → Bool
signed_byte byte = leb (high byte) 9 && not (is_none (sign_of (low byte)))

-- every digit is 0 to 9, and the sign is A to F
abbrev pub good_field : List ℕ → ℕ → ℕ → Bool
good_field main a n = decimal_field main a (n - 1) && signed_byte (last_byte main a n)

-- ---- the exact result

-- the true sum or difference of two fields
abbrev pub exact : List ℕ → ℕ → ℕ → ℕ → Bool → ℤ
exact main a b n subtract = cond subtract (number main a n -ℤ number main b n) (number main a n +ℤ number main b n)

-- it has more than 2n - 1 digits
abbrev pub overflows : ℕ → ℤ → Bool
overflows n z = leb (10 ^ places n) (nat_abs z)

-- "The exact signed result, on overflow its last digits, .. in preferred sign, zero positive unless digits overflowed, in which case the sign is that
-- of the true sum"
abbrev pub field_of : ℕ → ℤ → List ℕ
field_of n z = signed_bytes (places n) (nat_abs z) (preferred (below_zero z))
