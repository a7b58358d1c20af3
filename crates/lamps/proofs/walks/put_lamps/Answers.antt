-- One lamp a turn: the front that is put, and the lamps that are left. Assumes nothing.
use Prim.Native.Nat.{◌+◌}
use mathlib.Core.Path.{◌≡◌, refl}
use mathlib.Core.List.{[]}
use native.Mathlib.Omega.{arith}
use lib.ListN.{get_or, drop, drop_of_length-le}
use Rattle.digits.proofs.Lists.{joined_step}
use Rattle.lamps.specs.Walk.{walk_line, lines_of}
use Rattle.lamps.proofs.Chain.{then, room_for, fits_past, finished_past}
use Rattle.lamps.proofs.Lit.{length_line, length_lines}
use Rattle.lamps.proofs.walks.put_lamps.Goals as goal

pub put_lamp-next-requires : goal.put_lamp-next-requires
put_lamp-next-requires c =
    let l = c.loop-lamp in
    let a = c.args in
    let row = c.requires.0 in
    let fits = fits_past (lines_of a.row a.lamps.now) a.room.now a.at (omega (arith, length_lines a.row a.lamps.now row, c.requires)) in
    let room = room_for l.invariant (walk_line a.row (get_or a.lamps.now l.lamp-index (0, 0))) (lines_of a.row (drop (l.lamp-index + 1) a.lamps.now)) (joined_step (walk_line a.row) a.lamps.now (0, 0) l.lamp-index c.loop-lamp-test.true) fits in
    (row, omega (arith, room, length_line a.row (get_or a.lamps.now l.lamp-index (0, 0)) row))

pub loop-lamp-preserved : goal.loop-lamp-preserved
loop-lamp-preserved c =
    let l = c.loop-lamp in
    let a = c.args in
    let fits = fits_past (lines_of a.row a.lamps.now) a.room.now a.at (omega (arith, length_lines a.row a.lamps.now c.requires.0, c.requires)) in
    then l.invariant _ _ (joined_step (walk_line a.row) a.lamps.now _ l.lamp-index c.loop-lamp-test.true) refl c.put_lamp-next.ensures fits

pub returns : goal.returns
returns c =
    let l = c.loop-lamp in
    let a = c.args in
    let none : drop l.lamp-index a.lamps.now ≡ [] = drop_of_length-le a.lamps.now c.loop-lamp-test.false in
    finished_past (lines_of a.row a.lamps.now) a.room.now a.at (omega (arith, c.requires)) (rw none at l.invariant)
