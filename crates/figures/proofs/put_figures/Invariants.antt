-- From the low end: the digits still to put, before those that are put. Assumes nothing.
use mathlib.Core.Path.{◌≡◌}
use mathlib.Core.List.{◌++◌, map}
use lib.ListN.{length, drop}
use Rattle.digits.specs.Tens.{last_digits}
use Rattle.figures.specs.Figures.{figure}
use Rattle.figures.proofs.put_figures.Given as goal

abbrev pub invariant-loop-i : goal.invariant-loop-i
invariant-loop-i l = map figure (last_digits l.i l.rest) ++ drop l.i l.out ≡ map figure (last_digits (length l.initial.out) l.number)
