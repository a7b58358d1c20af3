-- One lamp a turn: the front that is put, and the lamps that are left. Assumes nothing.
use mathlib.Core.List.{◌++◌}
use lib.ListN.{take, drop}
use Rattle.digits.proofs.Puts.{Put}
use Rattle.lamps.specs.Walk.{lines_of}
use Rattle.lamps.proofs.walks.put_lamps.Given as goal

abbrev pub invariant-loop-lamp : goal.invariant-loop-lamp
invariant-loop-lamp l = Put (take l.at l.initial.room ++ lines_of l.row l.lamps) l.initial.room (lines_of l.row (drop l.lamp-index l.lamps)) l.room l.next
