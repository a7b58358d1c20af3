-- A line for each cycle. Assumes nothing.
use Rattle.std.specs.Prelude.{ℕ, List, [], ◌∷◌, ◌++◌}
use Rattle.adder.specs.declared.Work.{Work}
use Rattle.machine.specs.declared.State.{State}
use Rattle.text.specs.Ascii.{ascii}
use Rattle.text.specs.Text.{hexadecimal, in_columns}
use Rattle.channels.specs.Channels.{channels, work_channels}
use Rattle.lamps.specs.Columns.{headings, cells}

-- the names above the columns
unfoldable pub header_of : List ℕ
header_of = ascii "  CYCLE  AT" ++ (headings channels ++ (headings work_channels ++ (10 ∷ [])))

-- the cycle's number and the address of its word
abbrev pub front_of : ℕ → ℕ → List ℕ
front_of cycle at = in_columns 7 cycle ++ (32 ∷ hexadecimal 3 at)

-- a cycle: its number, its word's address, the state after it, and its work
unfoldable pub line_of : ℕ → ℕ → State → Work → List ℕ
line_of cycle at s w = front_of cycle at ++ (cells channels s ++ (cells work_channels w ++ (10 ∷ [])))

-- the state before the first cycle: no word, and no work
unfoldable pub start_of : State → List ℕ
start_of s = ascii "      0 ---" ++ (cells channels s ++ (10 ∷ []))
