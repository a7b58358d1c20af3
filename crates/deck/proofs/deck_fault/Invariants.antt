-- The checks of the blocks that are left, against those of all. Assumes nothing.
use Rattle.std.proofs.Common.{◌≡◌, ◌+◌, ◌/◌, length, drop}
use Rattle.digits.specs.Refusal.{first}
use Rattle.digits.specs.Lists.{in_turn}
use Rattle.deck.specs.Deck.{blocks_of, block_checks, deck_checks}
use Rattle.deck.proofs.deck_fault.Given as goal

abbrev pub invariant-loop-b : goal.invariant-loop-b
invariant-loop-b l = first (in_turn (block_checks (length l.fn.deck / 512)) (0 + l.b) (drop l.b (blocks_of l.fn.deck))) ≡ first (deck_checks l.fn.deck)
