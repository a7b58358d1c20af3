-- 19, or one row a turn. Assumes nothing.
use Rattle.digits.proofs.Puts.{Put}
use Rattle.lamps.proofs.Lit.{rows_left}
use Rattle.lamps.proofs.walks.walk.Given as goal

abbrev pub invariant-loop-i : goal.invariant-loop-i
invariant-loop-i l = Put (rows_left 0) l.initial.room (rows_left l.i) l.room l.next
