-- One byte a turn: the front that is put, and what is left of the record. Assumes nothing.
use mathlib.Core.List.{◌++◌}
use lib.ListN.{take}
use Rattle.digits.proofs.Puts.{Put}
use Rattle.lamps.specs.Rows.{byte_cells}
use Rattle.lamps.proofs.columns.put_cells.Given as goal

abbrev pub invariant-loop-row : goal.invariant-loop-row
invariant-loop-row l = Put (take l.at l.initial.room ++ byte_cells l.rows l.bytes) l.initial.room (byte_cells l.row-iterator.a.rest.now l.row-iterator.b.rest.now) l.room l.next
