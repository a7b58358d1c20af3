-- What was read of a reader whose bytes are known: the first of them, and fewer than the room holds only where none is left.
-- Assumes nothing.
use Rattle.std.specs.Prelude.{ℕ, ◌<◌, List, length, take}
use Rattle.std.specs.declared.option.Option.{Option}
use Rattle.std.specs.Io.KnownBytes.{Consumes, IsAtEnd}

-- how many were read, the bytes known before, those known after, and the room after
abbrev pub IsWhole : ℕ → Option (List ℕ) → Option (List ℕ) → List ℕ → Type 0
IsWhole n old new room = Consumes old new (take n room) × (n < length room → IsAtEnd new)
