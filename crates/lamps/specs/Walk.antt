-- The walk: one record after the other with exactly one lamp lit, each with the lamp's name. Assumes nothing.
use Rattle.std.specs.Prelude.{ℕ, ◌+◌, ◌-◌, ◌^◌, List, [], ◌∷◌, ◌++◌, map, cond, eqb, get_or, set, replicate}
use Rattle.digits.specs.Lists.{joined, in_turn}
use Rattle.text.specs.Text.{hexadecimal}
use Rattle.channels.specs.Channels.{channels, record_length}
use Rattle.lamps.specs.Columns.{digit_counts}
use Rattle.lamps.specs.Picture.{names_of, in_place}

-- the name of a row of lamps, by its place in the record
unfoldable pub row_name : ℕ → List ℕ
row_name row = in_place (get_or (names_of channels) row [])

-- the record that has one byte alone
abbrev pub alone : ℕ → ℕ → List ℕ
alone row x = set (replicate record_length 0) row x

-- a record in hexadecimal
unfoldable pub hex_bytes : List ℕ → List ℕ
hex_bytes bytes = joined (map (λ (x : ℕ). 32 ∷ hexadecimal 2 x) bytes)

-- a lamp: its row's name, the character that tells it in the row, and the record whose byte lights it
unfoldable pub walk_line : ℕ → ℕ × ℕ → List ℕ
walk_line row (number, x) = row_name row ++ (number ∷ (hex_bytes (alone row x) ++ (10 ∷ [])))

-- the lamps of a row, bit 0 first, each with the byte that lights it alone; a latch has one, without a number
abbrev pub lamps_of : ℕ → List (ℕ × ℕ)
lamps_of digits = cond (eqb digits 1) ((32, 1) ∷ []) (map (λ (n : ℕ). (48 + n, 2 ^ (7 - n))) (0 ∷ 1 ∷ 2 ∷ 3 ∷ 4 ∷ 5 ∷ 6 ∷ 7 ∷ []))

-- the lines of some lamps
abbrev pub lines_of : ℕ → List (ℕ × ℕ) → List ℕ
lines_of row lamps = joined (map (walk_line row) lamps)

abbrev pub walk_row : ℕ → ℕ → List ℕ
walk_row row digits = lines_of row (lamps_of digits)

-- all rows, in the order of the channels
unfoldable pub walk_of : List ℕ
walk_of = in_turn walk_row 0 (digit_counts channels)
