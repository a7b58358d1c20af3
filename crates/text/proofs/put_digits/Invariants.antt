-- 19, or one byte a turn: the front that is put, and the bytes that are left. Assumes nothing.
use Prim.Native.Nat.{◌*◌}
use lib.ListN.{drop}
use Rattle.digits.proofs.Puts.{Put}
use Rattle.text.specs.Text.{field_digits}
use Rattle.text.proofs.put_digits.Given as goal

abbrev pub invariant-loop-i : goal.invariant-loop-i
invariant-loop-i l = Put (field_digits l.field) l.initial.room (field_digits (drop l.i l.field)) l.room (2 * l.i)
