-- One group a turn. Assumes nothing.
use Rattle.std.proofs.Common.{◌≡◌, ◌++◌, length, take, drop}
use Rattle.deck.specs.Deck.{groups_of}
use Rattle.deck.proofs.groups_of.Given as goal

abbrev pub invariant-loop-i : goal.invariant-loop-i
invariant-loop-i l = (length l.gs ≡ 64) × (l.gs ≡ take l.i (groups_of l.fn.block) ++ drop l.i l.initial.gs)
