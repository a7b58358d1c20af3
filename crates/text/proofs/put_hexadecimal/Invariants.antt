-- From the low end: the digits still to put, before those that are put. Assumes nothing.
use mathlib.Core.Path.{◌≡◌}
use mathlib.Core.List.{◌++◌}
use lib.ListN.{length, drop}
use Rattle.text.specs.Text.{hexadecimal}
use Rattle.text.proofs.put_hexadecimal.Given as goal

abbrev pub invariant-loop-i : goal.invariant-loop-i
invariant-loop-i l = hexadecimal l.i l.rest ++ drop l.i l.out ≡ hexadecimal (length l.initial.out) l.number
