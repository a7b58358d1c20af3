-- From the low end: the places still to put, before those that are put. Assumes nothing.
use mathlib.Core.Path.{◌≡◌}
use mathlib.Core.List.{◌++◌}
use lib.ListN.{length, drop}
use Rattle.text.specs.Text.{places, in_columns}
use Rattle.text.proofs.put_decimal.Given as goal

abbrev pub invariant-loop-i : goal.invariant-loop-i
invariant-loop-i l = places l.last l.i l.rest ++ drop l.i l.out ≡ in_columns (length l.initial.out) l.number
