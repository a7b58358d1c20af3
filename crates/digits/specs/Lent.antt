-- What was lent, after something was put at its front. Assumes nothing.
use Rattle.std.specs.Prelude.{ℕ, List, ◌++◌, length, take, drop}

-- what was lent, with the new at its front and nothing changed past it
abbrev pub over : {A : Type 0} → List A → List A → List A
over new old = new ++ drop (length new) old

-- with the new from a place on
abbrev pub over_at : {A : Type 0} → ℕ → List A → List A → List A
over_at at new old = take at old ++ over new (drop at old)

-- at the front, as far as there is room
abbrev pub copied : {A : Type 0} → List A → List A → List A
copied from to = over (take (length to) from) to
