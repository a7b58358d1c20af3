-- The letters still to compare, against all. Assumes nothing.
use Rattle.std.proofs.Common.{◌≡◌, drop}
use Rattle.arguments.specs.Arguments.{names}
use Rattle.arguments.proofs.forms.names.Given as goal

abbrev pub invariant-loop-i : goal.invariant-loop-i
invariant-loop-i l = names (drop l.i l.name) (drop l.i l.text) ≡ names l.name l.text
