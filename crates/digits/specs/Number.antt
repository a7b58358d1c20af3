-- A number by its digits of w bits each, high digit first: a line of fields of one width. Assumes nothing.
use Rattle.std.specs.Prelude.{ℕ, List, length, replicate}
use Rattle.digits.specs.Line.{parts, join}

-- the lowest k digits of a number
abbrev pub digits_of : ℕ → ℕ → ℕ → List ℕ
digits_of w k number = parts (replicate k w) number

-- the number of some digits
abbrev pub number_of : ℕ → List ℕ → ℕ
number_of w ds = join (replicate (length ds) w) ds
