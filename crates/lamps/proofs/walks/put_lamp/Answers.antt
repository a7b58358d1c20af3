-- The name, the number, the record, and a line feed. Assumes nothing.
use Prim.Native.Nat.{ℕ, ◌+◌, ◌*◌, ◌≤◌}
use mathlib.Core.Path.{◌≡◌, refl, ap, ◌∙◌}
use mathlib.Core.List.{[], ◌∷◌, ◌++◌}
use native.Mathlib.Omega.{arith}
use lib.ListN.{length}
use Rattle.digits.proofs.Puts.{put_from}
use Rattle.channels.specs.Channels.{record_length}
use Rattle.lamps.specs.Walk.{row_name, alone, hex_bytes, walk_line}
use Rattle.lamps.proofs.Chain.{then, fits_past, finished_past}
use Rattle.lamps.proofs.Lit.{name_at, length_alone, length_record, length_line}
use Rattle.lamps.proofs.walks.put_lamp.Goals as goal

-- room for a record
three_each : (n at room : ℕ) → n ≡ record_length → at + 81 ≤ room → at + 3 * n ≤ room
three_each n at room e h = omega arith

pub put_record-next-requires : goal.put_record-next-requires
put_record-next-requires c =
    three_each _ _ _ (length_alone c.args.row c.args.byte) (omega (arith, c.requires, c.after-next.ensures.0, c.after-next-2.ensures.0, c.after-next.auto.room, c.after-next-2.auto.room))

pub after-requires : goal.after-requires
after-requires c =
    let record_put : c.put_record-next.result ≡ c.after-next-2.result + 81 = c.put_record-next.ensures.0 ∙ ap (λ (n : ℕ). c.after-next-2.result + n) (length_record c.args.row c.args.byte) in
    omega (arith, record_put, c.requires, c.after-next.ensures.0, c.after-next-2.ensures.0, c.after-next.auto.room, c.after-next-2.auto.room, c.put_record-next.auto.room)

pub returns : goal.returns
unfolding walk_line
returns c =
    let a = c.args in
    let old = a.room.now in
    let lit = hex_bytes (alone a.row a.byte) in
    let whole = walk_line a.row (a.number, a.byte) in
    let inside : a.at + length whole ≤ length old = omega (arith, c.requires, length_line a.row (a.number, a.byte) c.requires.0) in
    let fits = fits_past whole old a.at inside in
    let p = put_from whole old a.at (omega (arith, inside)) in
    let p = then p (row_name a.row) (a.number ∷ (lit ++ (10 ∷ []))) refl (name_at a.row _ c.requires.0) c.after-next.ensures fits in
    let p = then p (a.number ∷ []) (lit ++ (10 ∷ [])) refl refl c.after-next-2.ensures fits in
    let p = then p lit (10 ∷ []) refl refl c.put_record-next.ensures fits in
    finished_past whole old a.at (omega (arith, inside)) (then p (10 ∷ []) [] refl refl c.after.ensures fits)
