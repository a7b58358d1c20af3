-- The one lamp of a latch, or the eight of a byte. Assumes nothing.
use native.Mathlib.Omega.{arith}
use borrow.Author.Tests.{eq-eqb, ne_eqb}
use Rattle.lamps.specs.Walk.{lamps_of}
use Rattle.lamps.proofs.Lit.{length_lines}
use Rattle.lamps.proofs.walks.put_row.Goals as goal

pub put_lamps-requires : goal.put_lamps-requires
put_lamps-requires c =
    let room = rw (eq-eqb _ _ c.if-digits-eq1.true) at c.requires.1 in
    (c.requires.0, omega (arith, room, length_lines c.args.row (lamps_of 1) c.requires.0))

pub put_lamps-requires-2 : goal.put_lamps-requires-2
put_lamps-requires-2 c =
    let room = rw (ne_eqb _ _ c.if-digits-eq1.false) at c.requires.1 in
    (c.requires.0, omega (arith, room, length_lines c.args.row (lamps_of 2) c.requires.0))
