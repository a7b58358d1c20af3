-- One row a turn: the front that is put, and the rows that are left. Assumes nothing.
use mathlib.Core.List.{◌++◌}
use lib.ListN.{take}
use Rattle.digits.proofs.Puts.{Put}
use Rattle.lamps.specs.Rows.{rows_in}
use Rattle.lamps.proofs.pictures.put_rows.Given as goal

abbrev pub invariant-loop-row : goal.invariant-loop-row
invariant-loop-row l = Put (take l.at l.initial.room ++ rows_in l.rows l.bytes) l.initial.room (rows_in l.row-iterator.a.rest.now l.row-iterator.b.rest.now) l.room l.next
