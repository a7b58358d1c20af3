-- A number by its decimal digits, high digit first. Assumes nothing.
use Rattle.std.specs.Prelude.{ℕ, zero, suc, ◌+◌, ◌*◌, ◌/◌, ◌%◌, List, [], ◌∷◌, ◌++◌}

-- the last k digits of a number
abbrev pub last_digits : ℕ → ℕ → List ℕ
last_digits zero n = []
last_digits (suc k) n = last_digits k (n / 10) ++ (n % 10 ∷ [])

-- the number that digits write, going on from n
abbrev pub tens_from : ℕ → List ℕ → ℕ
tens_from n [] = n
tens_from n (d ∷ ds) = tens_from (n * 10 + d) ds

-- the number that digits write
abbrev pub tens : List ℕ → ℕ
tens ds = tens_from 0 ds
