-- One name a turn: the front that is put, and the names that are left. Assumes nothing.
use mathlib.Core.List.{◌++◌}
use lib.ListN.{take, drop}
use Rattle.digits.proofs.Puts.{Put}
use Rattle.lamps.specs.Rows.{names_in}
use Rattle.lamps.proofs.pictures.put_names.Given as goal

abbrev pub invariant-loop-row : goal.invariant-loop-row
invariant-loop-row l = Put (take l.at l.initial.room ++ names_in l.rows) l.initial.room (names_in (drop l.row-index l.rows)) l.room l.next
