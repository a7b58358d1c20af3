-- A byte by its bits. "Bit 0 is the high bit of a register, as in the manuals." Assumes nothing.
use Rattle.std.specs.Prelude.{ℕ, suc, ◌+◌, ◌-◌, ◌*◌, ◌/◌, ◌%◌, ◌^◌, Bool, true, false, eqb}

-- a bit that is on is 1
abbrev pub one : Bool → ℕ
one true = 1
one false = 0

-- bit n of a byte is on; a number past 7 names bit 7
abbrev pub bit : ℕ → ℕ → Bool
bit byte n = eqb (byte / 2 ^ (7 - n) % 2) 1

-- the byte with its bit n on or off
abbrev pub with_bit : ℕ → ℕ → Bool → ℕ
with_bit byte n on = byte / 2 ^ suc (7 - n) * 2 ^ suc (7 - n) + one on * 2 ^ (7 - n) + byte % 2 ^ (7 - n)
