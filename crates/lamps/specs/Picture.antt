-- A cycle as lamps, eight rows side by side under their names. Assumes nothing.
use Rattle.std.specs.Prelude.{ℕ, zero, suc, ◌+◌, ◌/◌, ◌%◌, List, [], ◌∷◌, ◌++◌, map, Bool, cond, length, take, drop}
use Rattle.digits.specs.Bits.{bit}
use Rattle.digits.specs.Lists.{joined}
use Rattle.adder.specs.declared.Work.{Work}
use Rattle.machine.specs.declared.State.{State}
use Rattle.text.specs.Ascii.{ascii}
use Rattle.text.specs.Text.{hexadecimal, in_columns, right}
use Rattle.channels.specs.Lamps.{Kind, byte, pair, latch, Value, Channel}
use Rattle.channels.specs.Channels.{channels, work_channels}

-- lit or dark
abbrev pub lamp : Bool → ℕ
lamp on = cond on 42 46

-- a byte's lamps, bit 0 first
abbrev pub eight : ℕ → List ℕ
eight x = map (λ (n : ℕ). lamp (bit x n)) (0 ∷ 1 ∷ 2 ∷ 3 ∷ 4 ∷ 5 ∷ 6 ∷ 7 ∷ [])

-- the rows of lamps of a channel, and of some
abbrev pub lamp_rows : (k : Kind) → Value k → List (List ℕ)
lamp_rows byte x = eight x ∷ []
lamp_rows pair x = eight (x / 256) ∷ eight (x % 256) ∷ []
lamp_rows latch on = (lamp on ∷ []) ∷ []

abbrev pub rows_of : {X : Type 0} → List (Channel X) → X → List (List ℕ)
rows_of [] x = []
rows_of (c ∷ cs) x = lamp_rows c.kind (c.value x) ++ rows_of cs x

-- the names of the rows
abbrev pub names_of : {X : Type 0} → List (Channel X) → List (List ℕ)
names_of [] = []
names_of (c ∷ cs) = map ascii c.rows ++ names_of cs

-- a name, or a row, at the right end of eight columns after a space
abbrev pub in_place : List ℕ → List ℕ
in_place text = 32 ∷ right 8 text

-- the names of some rows, and the rows below them
abbrev pub block : List (List ℕ) → List (List ℕ) → List ℕ
block names rows = joined (map in_place names) ++ (10 ∷ (joined (map in_place rows) ++ (10 ∷ [])))

-- eight side by side
abbrev pub blocks : ℕ → List (List ℕ) → List (List ℕ) → List ℕ
blocks zero names rows = []
blocks (suc n) names rows = block (take 8 names) (take 8 rows) ++ blocks n (drop 8 names) (drop 8 rows)

-- how many blocks some rows take, and those of some channels
abbrev pub eights : ℕ → ℕ
eights n = (n + 7) / 8

abbrev pub blocks_of : {X : Type 0} → List (Channel X) → X → List ℕ
blocks_of cs x = blocks (eights (length (names_of cs))) (names_of cs) (rows_of cs x)

abbrev pub title_of : ℕ → ℕ → List ℕ
title_of cycle at = ascii "CYCLE" ++ (in_columns 7 cycle ++ (ascii " AT " ++ (hexadecimal 3 at ++ (10 ∷ []))))

-- a cycle: its number and its word's address, the state after it, its work, and an empty line
unfoldable pub picture_of : ℕ → ℕ → State → Work → List ℕ
picture_of cycle at s w = title_of cycle at ++ (blocks_of channels s ++ (blocks_of work_channels w ++ (10 ∷ [])))

-- the state before the first cycle
unfoldable pub start_picture_of : State → List ℕ
start_picture_of s = ascii "CYCLE      0\n" ++ (blocks_of channels s ++ (10 ∷ []))
