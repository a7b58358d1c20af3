-- Packed unsigned decimal fields, by their lowest address and their length. Assumes nothing.
use Rattle.std.specs.Prelude.{ℕ, zero, suc, ◌+◌, ◌*◌, List, Bool, true, ◌&&◌, get_or}
use Rattle.digits.specs.Digits.{both_decimal, val}

-- the number that a field writes, its last byte the lowest
unfoldable pub value : List ℕ → ℕ → ℕ → ℕ
value main start zero = 0
value main start (suc n) = value main start n * 100 + val (get_or main (start + n) 0)

-- every digit of a field is 0 to 9
abbrev pub decimal_field : List ℕ → ℕ → ℕ → Bool
decimal_field main start zero = true
decimal_field main start (suc n) = both_decimal (get_or main start 0) && decimal_field main (start + 1) n
