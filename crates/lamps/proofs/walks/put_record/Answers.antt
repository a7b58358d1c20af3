-- One byte a turn: the front that is put, and the bytes that are left. Assumes nothing.
use Prim.Native.Nat.{◌+◌}
use mathlib.Core.Path.{refl}
use native.Mathlib.Omega.{arith}
use lib.ListN.{get_or, drop}
use Rattle.lamps.specs.Columns.{cell}
use Rattle.lamps.specs.Walk.{hex_bytes}
use Rattle.lamps.proofs.Cells.{length_cell}
use Rattle.lamps.proofs.Chain.{then, room_for, fits_past, finished_past}
use Rattle.lamps.proofs.Lit.{hex_step, hex_end, length_hex}
use Rattle.lamps.proofs.walks.put_record.Goals as goal

pub put_cell-next-requires : goal.put_cell-next-requires
put_cell-next-requires c =
    let l = c.loop-byte in
    let a = c.args in
    let new = cell 1 2 (get_or a.bytes.now l.byte-index 0) in
    let fits = fits_past (hex_bytes a.bytes.now) a.room.now a.at (omega (arith, length_hex a.bytes.now, c.requires)) in
    let room = room_for l.invariant new (hex_bytes (drop (l.byte-index + 1) a.bytes.now)) (hex_step a.bytes.now l.byte-index c.loop-byte-test.true) fits in
    omega (arith, room, length_cell 1 2 (get_or a.bytes.now l.byte-index 0))

pub loop-byte-preserved : goal.loop-byte-preserved
loop-byte-preserved c =
    let l = c.loop-byte in
    let a = c.args in
    let new = cell 1 2 (get_or a.bytes.now l.byte-index 0) in
    let fits = fits_past (hex_bytes a.bytes.now) a.room.now a.at (omega (arith, length_hex a.bytes.now, c.requires)) in
    then l.invariant new (hex_bytes (drop (l.byte-index + 1) a.bytes.now)) (hex_step a.bytes.now l.byte-index c.loop-byte-test.true) refl c.put_cell-next.ensures fits

pub returns : goal.returns
returns c =
    let l = c.loop-byte in
    let a = c.args in
    finished_past (hex_bytes a.bytes.now) a.room.now a.at (omega (arith, c.requires)) (rw (hex_end a.bytes.now l.byte-index c.loop-byte-test.false) at l.invariant)
