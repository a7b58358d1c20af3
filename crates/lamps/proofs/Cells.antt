-- The columns of some channels are the bytes of their record, each after its spaces. Assumes nothing.
use Prim.Native.Nat.{ℕ, ◌+◌, ◌-◌, ◌/◌, ◌%◌, ◌≤◌}
use mathlib.Core.Path.{◌≡◌, refl, ap, ◌∙◌}
use mathlib.Core.List.{List, [], ◌∷◌, ◌++◌, map, append_assoc}
use native.Mathlib.Nat.{add-sub_cancel_left}
use native.Mathlib.Omega.{arith}
use lib.ListN.{length, take, drop, replicate, length-append, length-drop, length-map, length-replicate}
use lib.Seq.{length-take-le}
use Rattle.digits.specs.Number.{digits_of}
use Rattle.digits.proofs.Number.{length_digits}
use Rattle.text.specs.Ascii.{ascii}
use Rattle.text.specs.Text.{capital, hexadecimal, right}
use Rattle.channels.specs.Lamps.{Kind, byte, pair, latch, Value, lamp_bytes, Channel, bytes_of}
use Rattle.lamps.specs.Columns.{shown, column_width, cells, cell}
use Rattle.lamps.specs.Picture.{in_place}
use Rattle.lamps.specs.Rows.{rows_by, table, byte_cells}
use Rattle.lamps.specs.declared.columns.Row.{Row}

regroup : (r h l rest : List ℕ) → (r ++ (h ++ l)) ++ rest ≡ (r ++ h) ++ (l ++ rest)
regroup r h l rest = simp append_assoc

-- one channel
one_cell : (k : Kind) (v : Value k) (w : ℕ) (names : List (List ℕ)) (rs : List Row) (xs : List ℕ)
    → (32 ∷ right w (shown k v)) ++ byte_cells rs xs ≡ byte_cells (rows_by k w names ++ rs) (lamp_bytes k v ++ xs)
one_cell byte v w names rs xs = refl
one_cell pair v w names rs xs = ap (λ (t : List ℕ). 32 ∷ t) (regroup (replicate (w - 4) 32) (hexadecimal 2 (v / 256)) (hexadecimal 2 (v % 256)) (byte_cells rs xs))
one_cell latch v w names rs xs = refl

-- all of them
pub cells_bytes : {X : Type 0} (cs : List (Channel X)) (x : X) → cells cs x ≡ byte_cells (table cs) (bytes_of cs x)
cells_bytes [] x = refl
cells_bytes (c ∷ cs) x =
    ap (λ (t : List ℕ). (32 ∷ right (column_width c) (shown c.kind (c.value x))) ++ t) (cells_bytes cs x)
    ∙ one_cell c.kind (c.value x) (column_width c) (map (λ name. in_place (ascii name)) c.rows) (table cs) (bytes_of cs x)

pub length_hexadecimal : (k n : ℕ) → length (hexadecimal k n) ≡ k
length_hexadecimal k n = length-map (digits_of 4 k n) capital ∙ length_digits 4 k n

pub length_cell : (b d x : ℕ) → length (cell b d x) ≡ b + d
length_cell b d x = length-append (replicate b 32) (hexadecimal d x) ∙ rw (length-replicate {A = ℕ} b 32, length_hexadecimal d x)

-- a part of a room
pub length_part : (at k : ℕ) (w : List ℕ) → at + k ≤ length w → length (take (at + k - at) (drop at w)) ≡ k
length_part at k w h = rw add-sub_cancel_left (length-take-le k (drop at w) (omega (arith, h, length-drop at w)))

-- nothing is left
pub no_cells : (rs : List Row) (xs : List ℕ) → length rs ≡ 0 → byte_cells rs xs ≡ []
no_cells [] xs e = refl
no_cells (r ∷ rs) xs e = absurd (omega arith)

pub no_bytes : (rs : List Row) (xs : List ℕ) → length xs ≡ 0 → byte_cells rs xs ≡ []
no_bytes [] xs e = refl
no_bytes (r ∷ rs) [] e = refl
no_bytes (r ∷ rs) (x ∷ xs) e = absurd (omega arith)
