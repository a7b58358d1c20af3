-- The correction of a decimal sum. Assumes nothing.
use Rattle.std.specs.Prelude.{ℕ, ◌+◌, ◌%◌, Bool, cond}
use Rattle.digits.specs.Digits.{high, low, digits}

-- "In decimal, each digit with no carry out is then lowered by six modulo 16."
abbrev pub lowered : Bool → ℕ → ℕ
lowered carried digit = cond carried digit ((digit + 10) % 16)

-- the byte of a sum, by the carries out of its low and its high digit
abbrev pub corrected : Bool → Bool → ℕ → ℕ
corrected lowCarry highCarry byte = digits (lowered highCarry (high byte)) (lowered lowCarry (low byte))
