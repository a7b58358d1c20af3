-- The checks of the words that are left, against those of all. Assumes nothing.
use Rattle.std.proofs.Common.{◌≡◌, ◌+◌, drop}
use Rattle.digits.specs.Refusal.{first}
use Rattle.digits.specs.Lists.{in_turn}
use Rattle.deck.specs.Deck.{word_checks}
use Rattle.deck.proofs.words_fault.Given as goal

abbrev pub invariant-loop-i : goal.invariant-loop-i
invariant-loop-i l = first (in_turn word_checks (l.start + l.i) (drop l.i l.words)) ≡ first (in_turn word_checks l.start l.words)
