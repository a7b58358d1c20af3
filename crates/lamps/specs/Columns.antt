-- The columns of a line: their headings, and what they show. Assumes nothing.
use Rattle.std.specs.Prelude.{ℕ, ◌/◌, ◌%◌, max, List, [], ◌∷◌, ◌++◌, length, replicate}
use Rattle.digits.specs.Bits.{one}
use Rattle.text.specs.Ascii.{ascii}
use Rattle.text.specs.Text.{hexadecimal, right}
use Rattle.channels.specs.Lamps.{Kind, byte, pair, latch, Value, Channel}

-- how many digits show a value
abbrev pub digits_in : Kind → ℕ
digits_in byte = 2
digits_in pair = 4
digits_in latch = 1

-- a byte as two hexadecimal digits, a pair as its two bytes, a latch as 0 or 1
abbrev pub shown : (k : Kind) → Value k → List ℕ
shown byte x = hexadecimal 2 x
shown pair x = hexadecimal 2 (x / 256) ++ hexadecimal 2 (x % 256)
shown latch on = hexadecimal 1 (one on)

-- a column is as wide as its heading or its digits
abbrev pub column_width : {X : Type 0} → Channel X → ℕ
column_width c = max (length (ascii c.column)) (digits_in c.kind)

-- a space, and a text at the right end of the column
abbrev pub column : {X : Type 0} → Channel X → List ℕ → List ℕ
column c text = 32 ∷ right (column_width c) text

abbrev pub headings : {X : Type 0} → List (Channel X) → List ℕ
headings [] = []
headings (c ∷ cs) = column c (ascii c.column) ++ headings cs

abbrev pub cells : {X : Type 0} → List (Channel X) → X → List ℕ
cells [] x = []
cells (c ∷ cs) x = column c (shown c.kind (c.value x)) ++ cells cs x

-- how many digits show each byte of the record
abbrev pub counts_of : Kind → List ℕ
counts_of byte = 2 ∷ []
counts_of pair = 2 ∷ 2 ∷ []
counts_of latch = 1 ∷ []

abbrev pub digit_counts : {X : Type 0} → List (Channel X) → List ℕ
digit_counts [] = []
digit_counts (c ∷ cs) = counts_of c.kind ++ digit_counts cs

-- a byte after its spaces
abbrev pub cell : ℕ → ℕ → ℕ → List ℕ
cell before digits x = replicate before 32 ++ hexadecimal digits x
