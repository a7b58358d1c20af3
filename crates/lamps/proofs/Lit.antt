-- The lines of the walk, and that each lights one lamp. Assumes nothing.
use Prim.Native.Nat.{ℕ, suc, ◌+◌, ◌*◌, ◌<◌, ◌≤◌}
use mathlib.Core.Path.{◌≡◌, refl, sym, ap, ◌∙◌}
use mathlib.Core.Bool.{Bool, true, false, cond}
use mathlib.Core.List.{List, [], ◌∷◌, ◌++◌, map}
use native.Mathlib.Nat.{zero-add}
use native.Mathlib.Omega.{arith}
use lib.Count.{ones}
use lib.Dec.{eqb}
use lib.ListN.{length, get_or, take, drop, replicate, length-append, length-set, length-take, length-drop, drop_of_length-le}
use Rattle.digits.specs.Lists.{joined, in_turn}
use Rattle.digits.specs.Table.{Each}
use Rattle.digits.proofs.Lists.{pieces_at, map_at, joined_step, placed_step}
use Rattle.digits.proofs.Puts.{Put}
use Rattle.text.specs.Text.{hexadecimal}
use Rattle.channels.specs.Channels.{channels, record_length}
use Rattle.lamps.specs.Columns.{digit_counts, cell}
use Rattle.lamps.specs.Picture.{names_of, in_place}
use Rattle.lamps.specs.Rows.{table}
use Rattle.lamps.specs.Walk.{row_name, alone, hex_bytes, walk_line, lamps_of, lines_of, walk_row}
use Rattle.lamps.specs.declared.columns.Row.{Row}
use Rattle.lamps.proofs.Chain.{room_for}

-- ---- each lamp's byte has one bit on

lit_of : (b : Bool) → Each (λ (l : ℕ × ℕ). ones l.1 ≡ 1) (cond b ((32, 1) ∷ []) ((48, 128) ∷ (49, 64) ∷ (50, 32) ∷ (51, 16) ∷ (52, 8) ∷ (53, 4) ∷ (54, 2) ∷ (55, 1) ∷ []))
unfolding ones
lit_of true = (refl, tt)
lit_of false = (refl, (refl, (refl, (refl, (refl, (refl, (refl, (refl, tt))))))))

pub one_lit : (digits : ℕ) → Each (λ (l : ℕ × ℕ). ones l.1 ≡ 1) (lamps_of digits)
one_lit digits = lit_of (eqb digits 1)

-- ---- the table

pub name_at : (row : ℕ) (d : Row) → row < record_length → (get_or (table channels) row d).name ≡ row_name row
unfolding row_name
name_at row d h = sym (map_at (λ (r : Row). r.name) (table channels) row d [] h) ∙ map_at in_place (names_of channels) row [] [] h

pub digits_at : (row : ℕ) (d : Row) → row < record_length → (get_or (table channels) row d).digits ≡ get_or (digit_counts channels) row 0
digits_at row d h = sym (map_at (λ (r : Row). r.digits) (table channels) row d 0 h)

abbrev names : List ℕ
names = joined (map in_place (names_of channels))

length_name : (row : ℕ) → row < record_length → length (row_name row) ≡ 9
unfolding row_name
length_name row h =
    let piece : take 9 (drop (row * 9) names) ≡ in_place (get_or (names_of channels) row []) = sym (pieces_at 9 record_length names row h) ∙ map_at in_place (names_of channels) row [] [] h in
    ap length (sym piece) ∙ rw (length-take 9 (drop (row * 9) names), length-drop (row * 9) names) (omega arith)

-- ---- a record in hexadecimal

pub hex_step : (xs : List ℕ) (i : ℕ) → i < length xs → hex_bytes (drop i xs) ≡ cell 1 2 (get_or xs i 0) ++ hex_bytes (drop (i + 1) xs)
unfolding hex_bytes
hex_step xs i h = joined_step (λ (x : ℕ). 32 ∷ hexadecimal 2 x) xs 0 i h

pub hex_end : (xs : List ℕ) (i : ℕ) → length xs ≤ i → hex_bytes (drop i xs) ≡ []
unfolding hex_bytes
hex_end xs i h = rw (drop_of_length-le xs h)

pub length_hex : (xs : List ℕ) → length (hex_bytes xs) ≡ 3 * length xs
unfolding hex_bytes
length_hex [] = refl
length_hex (x ∷ xs) = ap (λ (n : ℕ). suc (suc (suc n))) (length_hex xs) ∙ omega arith

pub length_alone : (row x : ℕ) → length (alone row x) ≡ record_length
length_alone row x = length-set (replicate record_length 0) row x

pub length_record : (row x : ℕ) → length (hex_bytes (alone row x)) ≡ 3 * record_length
length_record row x = length_hex (alone row x) ∙ rw (length_alone row x)

-- ---- lines

abbrev pub line_length : ℕ
line_length = 11 + 3 * record_length

pub length_line : (row : ℕ) (l : ℕ × ℕ) → row < record_length → length (walk_line row l) ≡ line_length
unfolding walk_line
length_line row (n, x) h =
    length-append (row_name row) (n ∷ (hex_bytes (alone row x) ++ (10 ∷ [])))
    ∙ rw (length_name row h, length-append (hex_bytes (alone row x)) (10 ∷ []), length_record row x)

pub length_lines : (row : ℕ) (ls : List (ℕ × ℕ)) → row < record_length → length (lines_of row ls) ≡ line_length * length ls
length_lines row [] h = refl
length_lines row (l ∷ ls) h = length-append (walk_line row l) (lines_of row ls) ∙ rw (length_line row l h, length_lines row ls h) (omega arith)

-- ---- rows

-- what is left of the walk
abbrev pub rows_left : ℕ → List ℕ
rows_left row = in_turn walk_row (0 + row) (drop row (digit_counts channels))

pub row_step : (row : ℕ) → row < record_length → rows_left row ≡ walk_row row (get_or (digit_counts channels) row 0) ++ rows_left (row + 1)
row_step row h = rw (placed_step walk_row (digit_counts channels) 0 0 row h, zero-add row)

abbrev lamp_count : List ℕ → ℕ
lamp_count [] = 0
lamp_count (d ∷ ds) = length (lamps_of d) + lamp_count ds

length_from : (row : ℕ) (ds : List ℕ) → row + length ds ≤ record_length → length (in_turn walk_row row ds) ≡ line_length * lamp_count ds
length_from row [] h = refl
length_from row (d ∷ ds) h =
    length-append (walk_row row d) _ ∙ rw (length_lines row (lamps_of d) (omega arith), length_from (suc row) ds (omega arith)) (omega arith)

abbrev pub walk_length : ℕ
walk_length = line_length * lamp_count (digit_counts channels)

pub length_walk : length (rows_left 0) ≡ walk_length
length_walk = length_from 0 (digit_counts channels) (omega arith)

-- there is room for the next row
pub row_room : {old w : List ℕ} {at : ℕ} (row : ℕ) → row < record_length → walk_length ≤ length old → Put (rows_left 0) old (rows_left row) w at → at + length (walk_row row (get_or (digit_counts channels) row 0)) ≤ length w
row_room row h room p = room_for p (walk_row row (get_or (digit_counts channels) row 0)) (rows_left (row + 1)) (row_step row h) (omega (arith, length_walk, room))
