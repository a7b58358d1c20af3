-- The table of rows, a row to a byte of the record, and the columns, the picture and the names by it, as the code goes along it. Assumes nothing.
use Rattle.std.specs.Prelude.{ℕ, zero, suc, ◌-◌, List, [], ◌∷◌, ◌++◌, map, cond, not, eqb, length, take, drop, get_or}
use Rattle.digits.specs.Lists.{joined}
use Rattle.text.specs.Ascii.{ascii}
use Rattle.channels.specs.Lamps.{Kind, byte, pair, latch, Channel}
use Rattle.lamps.specs.Columns.{column_width, cell}
use Rattle.lamps.specs.Picture.{lamp, eight, in_place, eights}
use Rattle.lamps.specs.declared.columns.Row.{Row}

abbrev pub row : List ℕ → ℕ → ℕ → Row
row name before digits = record { name = name; before = before; digits = digits }

-- the rows of a channel: its names in their places, the spaces before each byte's digits, and how many digits it has
abbrev pub rows_by : Kind → ℕ → List (List ℕ) → List Row
rows_by byte w names = row (get_or names 0 []) (suc (w - 2)) 2 ∷ []
rows_by pair w names = row (get_or names 0 []) (suc (w - 4)) 2 ∷ row (get_or names 1 []) 0 2 ∷ []
rows_by latch w names = row (get_or names 0 []) (suc (w - 1)) 1 ∷ []

abbrev pub table : {X : Type 0} → List (Channel X) → List Row
table [] = []
table (c ∷ cs) = rows_by c.kind (column_width c) (map (λ name. in_place (ascii name)) c.rows) ++ table cs

-- each byte of a record after its spaces
abbrev pub byte_cells : List Row → List ℕ → List ℕ
byte_cells (r ∷ rs) (x ∷ xs) = cell r.before r.digits x ++ byte_cells rs xs
byte_cells (r ∷ rs) [] = []
byte_cells [] xs = []

-- the row of a byte: a latch, which has one digit, is on at any value but 0
abbrev pub row_at : ℕ → ℕ → List ℕ
row_at digits x = cond (eqb digits 1) (lamp (not (eqb x 0)) ∷ []) (eight x)

abbrev pub byte_rows : List Row → List ℕ → List (List ℕ)
byte_rows (r ∷ rs) (x ∷ xs) = row_at r.digits x ∷ byte_rows rs xs
byte_rows (r ∷ rs) [] = []
byte_rows [] xs = []

-- the names of some rows, and their bytes' rows, side by side
abbrev pub names_in : List Row → List ℕ
names_in rows = joined (map (λ (r : Row). r.name) rows)

abbrev pub rows_in : List Row → List ℕ → List ℕ
rows_in rows bytes = joined (map in_place (byte_rows rows bytes))

-- a block of some bytes, under their names
abbrev pub block_bytes : List Row → List ℕ → List ℕ
block_bytes rows bytes = names_in rows ++ (10 ∷ (rows_in rows bytes ++ (10 ∷ [])))

-- eight side by side
abbrev pub byte_blocks : ℕ → List Row → List ℕ → List ℕ
byte_blocks zero rows bytes = []
byte_blocks (suc n) rows bytes = block_bytes (take 8 rows) (take 8 bytes) ++ byte_blocks n (drop 8 rows) (drop 8 bytes)

abbrev pub blocks_bytes : List Row → List ℕ → List ℕ
blocks_bytes rows bytes = byte_blocks (eights (length bytes)) rows bytes
