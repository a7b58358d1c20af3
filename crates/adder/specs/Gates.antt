-- The gates, between the sources and the adder. A code beyond its field's width acts as code 0. Assumes nothing.
use Rattle.std.specs.Prelude.{ℕ, ◌*◌, List, [], ◌∷◌, ◌++◌, get_or}
use Rattle.digits.specs.Digits.{high, low, digits}

-- "0 zero, 1 low digit in place, 2 high digit in place, 3 all"
abbrev pub gates : ℕ → List ℕ
gates byte =
    0 ∷  -- 0
    low byte ∷  -- 1
    high byte * 16 ∷  -- 2
    byte ∷  -- 3
    []

abbrev pub crossed : ℕ → ℕ
crossed byte = digits (low byte) (high byte)

-- CF: the gates, "4 stop, 5 to 7 cross the digits first and then gate low, high, all." A stop never comes here: its code gates zero.
abbrev pub gated_a : ℕ → ℕ → ℕ
gated_a cf a = get_or (gates a ++ gates (crossed a)) cf 0

-- "CG: 0 zero, 1 low, 2 high, 3 all."
abbrev pub gated_b : ℕ → ℕ → ℕ
gated_b cg b = get_or (gates b) cg 0
