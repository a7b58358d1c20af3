-- A byte by its two digits. Assumes nothing.
use Rattle.std.specs.Prelude.{ℕ, ◌+◌, ◌*◌, ◌/◌, ◌%◌, Bool, ◌&&◌, leb}

abbrev pub high : ℕ → ℕ
high byte = byte / 16

abbrev pub low : ℕ → ℕ
low byte = byte % 16

-- the byte of a high and a low digit
abbrev pub digits : ℕ → ℕ → ℕ
digits h l = h * 16 + l

-- "both digits at most 9"
abbrev pub both_decimal : ℕ → Bool
both_decimal byte = leb (high byte) 9 && leb (low byte) 9

-- the number that two decimal digits write
abbrev pub val : ℕ → ℕ
val byte = 10 * high byte + low byte
