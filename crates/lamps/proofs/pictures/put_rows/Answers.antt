-- One row a turn: the front that is put, and the rows that are left. Assumes nothing.
use mathlib.Core.Logic.{⊎_elim}
use mathlib.Core.Path.{◌≡◌, ap}
use mathlib.Core.List.{[], ◌++◌}
use native.Mathlib.Omega.{arith}
use lib.ListN.{length}
use Rattle.lamps.specs.Picture.{in_place}
use Rattle.lamps.specs.Rows.{row_at, rows_in}
use Rattle.lamps.proofs.Rows.{no_rows, no_lamps}
use Rattle.lamps.proofs.Chain.{then, room_for, fits_past, finished_past}
use Rattle.lamps.proofs.pictures.put_rows.Goals as goal

pub after-next-requires : goal.after-next-requires
after-next-requires c =
    let l = c.loop-row in
    let a = c.args in
    let r = c.in-Some.row.now in
    let x = c.in-Some.field-0-1.now in
    let new = in_place (row_at r.digits x) in
    let left = rows_in c.next.new.self.a.rest.now c.next.new.self.b.rest.now in
    let steps = c.in-Some.ensures.steps in
    let step : rows_in l.row-iterator.a.rest.now l.row-iterator.b.rest.now ≡ new ++ left = λ i. rows_in (steps.0 i) (steps.1 i) in
    let room = room_for l.invariant new left step (fits_past (rows_in a.rows.now a.bytes.now) a.room.now a.at c.requires) in
    omega (arith, room, ap length c.lamps_of.ensures)

pub loop-row-preserved : goal.loop-row-preserved
loop-row-preserved c =
    let l = c.loop-row in
    let a = c.args in
    let r = c.in-Some.row.now in
    let x = c.in-Some.field-0-1.now in
    let new = in_place (row_at r.digits x) in
    let left = rows_in c.next.new.self.a.rest.now c.next.new.self.b.rest.now in
    let steps = c.in-Some.ensures.steps in
    let step : rows_in l.row-iterator.a.rest.now l.row-iterator.b.rest.now ≡ new ++ left = λ i. rows_in (steps.0 i) (steps.1 i) in
    then l.invariant new left step c.lamps_of.ensures c.after-next.ensures (fits_past (rows_in a.rows.now a.bytes.now) a.room.now a.at c.requires)

pub returns : goal.returns
returns c =
    let l = c.loop-row in
    let a = c.args in
    let rs = l.row-iterator.a.rest.now in
    let xs = l.row-iterator.b.rest.now in
    let none : rows_in rs xs ≡ [] = ⊎_elim (λ q. no_rows rs xs q.1.0) (λ q. no_lamps rs xs q.1.0) c.in-None.ensures.steps in
    finished_past (rows_in a.rows.now a.bytes.now) a.room.now a.at (omega (arith, c.requires)) (rw none at l.invariant)
