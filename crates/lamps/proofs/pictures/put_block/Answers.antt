-- The names, a line feed, the rows, and a line feed. Assumes nothing.
use Prim.Native.Nat.{◌+◌, ◌≤◌}
use mathlib.Core.Path.{refl}
use mathlib.Core.List.{[], ◌∷◌, ◌++◌}
use native.Mathlib.Omega.{arith}
use lib.ListN.{length}
use Rattle.digits.proofs.Puts.{put_from}
use Rattle.lamps.specs.Rows.{names_in, rows_in, block_bytes}
use Rattle.lamps.proofs.Chain.{then, fits_past, finished_past}
use Rattle.lamps.proofs.Rows.{length_block}
use Rattle.lamps.proofs.pictures.put_block.Goals as goal

pub returns : goal.returns
returns c =
    let a = c.args in
    let names = names_in a.rows.now in
    let lamps = rows_in a.rows.now a.bytes.now in
    let whole = block_bytes a.rows.now a.bytes.now in
    let inside : a.at + length whole ≤ length a.room.now = omega (arith, c.requires, length_block a.rows.now a.bytes.now) in
    let fits = fits_past whole a.room.now a.at inside in
    let p = put_from whole a.room.now a.at (omega (arith, inside)) in
    let p = then p names (10 ∷ (lamps ++ (10 ∷ []))) refl refl c.put_names-next.ensures fits in
    let p = then p (10 ∷ []) (lamps ++ (10 ∷ [])) refl refl c.after-next.ensures fits in
    let p = then p lamps (10 ∷ []) refl refl c.put_rows-next.ensures fits in
    finished_past whole a.room.now a.at (omega (arith, inside)) (then p (10 ∷ []) [] refl refl c.after.ensures fits)
