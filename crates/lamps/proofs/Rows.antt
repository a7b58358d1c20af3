-- Rows of lamps, by the rows of the table and the bytes of the record. Assumes nothing.
use Prim.Native.Nat.{ℕ, suc, ◌+◌, ◌*◌, ◌<◌, ◌≤◌, min}
use mathlib.Core.Path.{◌≡◌, refl, sym, ap, ◌∙◌}
use mathlib.Core.Bool.{Bool, true, false, cond, not}
use mathlib.Core.List.{List, [], ◌∷◌, ◌++◌, append-nil}
use native.Mathlib.Omega.{arith}
use borrow.Author.Tests.{leb-true, leb-false}
use lib.Dec.{leb, eqb}
use lib.ListN.{length, take, drop, drop_of_length-le, length-append, length-drop}
use lib.Seq.{take_all, take-append_seam, drop-append_seam}
use Rattle.adder.specs.declared.Work.{Work}
use Rattle.machine.specs.declared.State.{State}
use Rattle.channels.specs.Lamps.{Kind, byte, pair, latch, Value, lamp_bytes, Channel, bytes_of}
use Rattle.channels.specs.Channels.{channels, work_channels, saved, worked}
use Rattle.lamps.specs.Columns.{column_width}
use Rattle.lamps.specs.Picture.{lamp, eight, in_place, lamp_rows, rows_of, names_of, blocks, eights, blocks_of}
use Rattle.lamps.specs.Rows.{rows_by, table, row_at, byte_rows, names_in, rows_in, block_bytes, byte_blocks, blocks_bytes}
use Rattle.lamps.specs.declared.columns.Row.{Row}

-- the rows of some channels are those of their bytes
one_row : (k : Kind) (v : Value k) (w : ℕ) (names : List (List ℕ)) (rs : List Row) (xs : List ℕ) → lamp_rows k v ++ byte_rows rs xs ≡ byte_rows (rows_by k w names ++ rs) (lamp_bytes k v ++ xs)
one_row byte v w names rs xs = refl
one_row pair v w names rs xs = refl
one_row latch true w names rs xs = refl
one_row latch false w names rs xs = refl

pub rows_bytes : {X : Type 0} (cs : List (Channel X)) (x : X) → rows_of cs x ≡ byte_rows (table cs) (bytes_of cs x)
rows_bytes [] x = refl
rows_bytes (c ∷ cs) x = ap (λ (t : List (List ℕ)). lamp_rows c.kind (c.value x) ++ t) (rows_bytes cs x) ∙ one_row c.kind (c.value x) (column_width c) _ (table cs) (bytes_of cs x)

-- nothing is left
pub no_rows : (rs : List Row) (xs : List ℕ) → length rs ≡ 0 → rows_in rs xs ≡ []
no_rows [] xs e = refl
no_rows (r ∷ rs) xs e = absurd (omega arith)

pub no_lamps : (rs : List Row) (xs : List ℕ) → length xs ≡ 0 → rows_in rs xs ≡ []
no_lamps [] xs e = refl
no_lamps (r ∷ rs) [] e = refl
no_lamps (r ∷ rs) (x ∷ xs) e = absurd (omega arith)

-- a row has nine bytes in its place, and so rows side by side nine times as many as there are
length_row : (digits x : ℕ) → length (in_place (row_at digits x)) ≡ 9
length_row digits x = by (eqb digits 1)
  where
    by : (b : Bool) → length (in_place (cond b (lamp (not (eqb x 0)) ∷ []) (eight x))) ≡ 9
    by true = refl
    by false = refl

pub length_rows : (rs : List Row) (xs : List ℕ) → length rs ≡ length xs → length (rows_in rs xs) ≡ 9 * length xs
length_rows [] [] e = refl
length_rows [] (x ∷ xs) e = absurd (omega arith)
length_rows (r ∷ rs) [] e = absurd (omega arith)
length_rows (r ∷ rs) (x ∷ xs) e =
    length-append (in_place (row_at r.digits x)) (rows_in rs xs) ∙ rw (length_row r.digits x, length_rows rs xs (omega arith)) (omega arith)

pub length_block : (rs : List Row) (xs : List ℕ) → length (block_bytes rs xs) ≡ length (names_in rs) + (length (rows_in rs xs) + 2)
length_block rs xs = length-append (names_in rs) _ ∙ rw (length-append (rows_in rs xs) (10 ∷ [])) (omega arith)

-- ---- eight side by side

-- the next eight of a list, or all that is left
pub next_eight : {A : Type 0} (l x t : List A) → l ≡ x ++ t → length x ≡ min 8 (length l) → (take 8 l ≡ x) × (drop 8 l ≡ t)
next_eight {A} l x t e n = by (leb 8 (length l)) refl
  where
    all : length l ≡ length x + length t
    all = ap length e ∙ length-append x t

    by : (b : Bool) → leb 8 (length l) ≡ b → (take 8 l ≡ x) × (drop 8 l ≡ t)
    by true h =
        let m = leb-true 8 (length l) h in
        let k : 8 ≡ length x = omega arith in
        (ap (λ (j : ℕ). take j l) k ∙ ap (take (length x)) e ∙ take-append_seam x t, ap (λ (j : ℕ). drop j l) k ∙ ap (drop (length x)) e ∙ drop-append_seam x t)
    by false h =
        let m = leb-false 8 (length l) h in
        let few : length l ≤ 8 = omega arith in
        let none = nothing t (omega (arith, all)) in
        (take_all 8 l few ∙ e ∙ ap (λ (s : List A). x ++ s) none ∙ append-nil x, drop_of_length-le l few ∙ sym none)
      where
        nothing : (s : List A) → length s ≡ 0 → s ≡ []
        nothing [] z = refl
        nothing (y ∷ s) z = absurd (omega arith)

pub blocks_step : (rs r rs' : List Row) (xs x xs' : List ℕ) → rs ≡ r ++ rs' → length r ≡ min 8 (length rs) → xs ≡ x ++ xs' → length x ≡ min 8 (length xs) → 0 < length xs
    → blocks_bytes rs xs ≡ block_bytes r x ++ blocks_bytes rs' xs'
blocks_step rs r rs' xs x xs' a m b n h =
    let p = next_eight rs r rs' a m in
    let q = next_eight xs x xs' b n in
    let k : eights (length xs) ≡ suc (eights (length xs')) = omega (arith, ap length q.1, length-drop 8 xs) in
    ap (λ (j : ℕ). byte_blocks j rs xs) k ∙ λ i. block_bytes (p.0 i) (q.0 i) ++ byte_blocks (eights (length xs')) (p.1 i) (q.1 i)

pub no_blocks : (rs : List Row) (xs : List ℕ) → length xs ≡ 0 → blocks_bytes rs xs ≡ []
no_blocks rs xs e = let n : eights (length xs) ≡ 0 = omega arith in ap (λ (j : ℕ). byte_blocks j rs xs) n

-- the blocks of some channels are those of their bytes
pub state_blocks : (s : State) → blocks_bytes (table channels) (saved s) ≡ blocks_of channels s
unfolding saved
state_blocks s = sym (ap (blocks (eights (length (names_of channels))) (names_of channels)) (rows_bytes channels s))

pub work_blocks : (w : Work) → blocks_bytes (table work_channels) (worked w) ≡ blocks_of work_channels w
unfolding worked
work_blocks w = sym (ap (blocks (eights (length (names_of work_channels))) (names_of work_channels)) (rows_bytes work_channels w))
