-- One name a turn: the front that is put, and the names that are left. Assumes nothing.
use mathlib.Core.Path.{◌≡◌, refl}
use mathlib.Core.List.{[]}
use native.Mathlib.Omega.{arith}
use lib.ListN.{drop, drop_of_length-le}
use Rattle.digits.proofs.Lists.{joined_step}
use Rattle.lamps.specs.Rows.{names_in}
use Rattle.lamps.specs.declared.columns.Row.{Row}
use Rattle.lamps.proofs.Chain.{then, room_for, fits_past, finished_past}
use Rattle.lamps.proofs.pictures.put_names.Goals as goal

pub after-next-requires : goal.after-next-requires
after-next-requires c =
    let l = c.loop-row in
    let a = c.args in
    room_for l.invariant _ _ (joined_step (λ (r : Row). r.name) a.rows.now _ l.row-index (omega arith)) (fits_past (names_in a.rows.now) a.room.now a.at c.requires)

pub loop-row-preserved : goal.loop-row-preserved
loop-row-preserved c =
    let l = c.loop-row in
    let a = c.args in
    then l.invariant _ _ (joined_step (λ (r : Row). r.name) a.rows.now _ l.row-index (omega arith)) refl c.after-next.ensures (fits_past (names_in a.rows.now) a.room.now a.at c.requires)

pub returns : goal.returns
returns c =
    let l = c.loop-row in
    let a = c.args in
    let none : drop l.row-index a.rows.now ≡ [] = drop_of_length-le a.rows.now (omega arith) in
    finished_past (names_in a.rows.now) a.room.now a.at (omega (arith, c.requires)) (rw none at l.invariant)
