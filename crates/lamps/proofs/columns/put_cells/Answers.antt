-- One byte a turn: the front that is put, and what is left of the record. Assumes nothing.
use mathlib.Core.Logic.{⊎_elim}
use mathlib.Core.Path.{◌≡◌, refl}
use mathlib.Core.List.{[], ◌++◌}
use native.Mathlib.Omega.{arith}
use Rattle.lamps.specs.Columns.{cell}
use Rattle.lamps.specs.Rows.{byte_cells}
use Rattle.lamps.proofs.Cells.{length_cell, no_cells, no_bytes}
use Rattle.lamps.proofs.Chain.{then, room_for, fits_past, finished_past}
use Rattle.lamps.proofs.columns.put_cells.Goals as goal

pub put_cell-next-requires : goal.put_cell-next-requires
put_cell-next-requires c =
    let l = c.loop-row in
    let a = c.args in
    let r = c.in-Some.row.now in
    let x = c.in-Some.field-0-1.now in
    let new = cell r.before r.digits x in
    let left = byte_cells c.next.new.self.a.rest.now c.next.new.self.b.rest.now in
    let steps = c.in-Some.ensures.steps in
    let step : byte_cells l.row-iterator.a.rest.now l.row-iterator.b.rest.now ≡ new ++ left = λ i. byte_cells (steps.0 i) (steps.1 i) in
    let room = room_for l.invariant new left step (fits_past (byte_cells a.rows.now a.bytes.now) a.room.now a.at c.requires) in
    omega (arith, room, length_cell r.before r.digits x)

pub loop-row-preserved : goal.loop-row-preserved
loop-row-preserved c =
    let l = c.loop-row in
    let a = c.args in
    let r = c.in-Some.row.now in
    let x = c.in-Some.field-0-1.now in
    let new = cell r.before r.digits x in
    let left = byte_cells c.next.new.self.a.rest.now c.next.new.self.b.rest.now in
    let steps = c.in-Some.ensures.steps in
    let step : byte_cells l.row-iterator.a.rest.now l.row-iterator.b.rest.now ≡ new ++ left = λ i. byte_cells (steps.0 i) (steps.1 i) in
    then l.invariant new left step refl c.put_cell-next.ensures (fits_past (byte_cells a.rows.now a.bytes.now) a.room.now a.at c.requires)

pub returns : goal.returns
returns c =
    let l = c.loop-row in
    let a = c.args in
    let rs = l.row-iterator.a.rest.now in
    let xs = l.row-iterator.b.rest.now in
    let none : byte_cells rs xs ≡ [] = ⊎_elim (λ q. no_cells rs xs q.1.0) (λ q. no_bytes rs xs q.1.0) c.in-None.ensures.steps in
    finished_past (byte_cells a.rows.now a.bytes.now) a.room.now a.at (omega (arith, c.requires)) (rw none at l.invariant)
