-- From the last byte: what is laid stands at the right end. Assumes nothing.
use Rattle.std.proofs.Common.{◌≡◌, ◌-◌, length, drop}
use Rattle.arguments.specs.Arguments.{laid}
use Rattle.arguments.proofs.fields.lay.Given as goal

abbrev pub invariant-loop-k : goal.invariant-loop-k
invariant-loop-k l = drop (length l.initial.field - l.k) l.field ≡ laid l.k l.text
