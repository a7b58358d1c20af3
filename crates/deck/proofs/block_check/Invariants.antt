-- The sum so far with the groups that are left, against the whole. Assumes nothing.
use Rattle.std.proofs.Common.{◌≡◌, ◌+◌, ◌%◌, ◌^◌, take, drop}
use Rattle.digits.specs.Line.{total}
use Rattle.deck.specs.Deck.{check_of}
use Rattle.deck.proofs.block_check.Given as goal

abbrev pub invariant-loop-g : goal.invariant-loop-g
invariant-loop-g l = (l.sum + total (drop l.g-index (take 63 l.fn.gs))) % 2 ^ 64 ≡ check_of l.fn.gs
