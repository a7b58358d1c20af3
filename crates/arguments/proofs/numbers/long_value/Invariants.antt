-- The digits still to read, against all. Assumes nothing.
use Rattle.std.proofs.Common.{◌≡◌, ◌+◌, ◌*◌, ◌^◌, ◌≤◌, drop}
use Rattle.arguments.specs.Arguments.{value_from}
use Rattle.arguments.proofs.numbers.long_value.Given as goal

abbrev pub invariant-loop-c : goal.invariant-loop-c
invariant-loop-c l = (l.n + 2 ≤ 2 ^ (4 * l.c-index + 1)) × (value_from l.base l.n (drop l.c-index l.text) ≡ value_from l.base 0 l.text)
