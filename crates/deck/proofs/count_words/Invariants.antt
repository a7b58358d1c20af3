-- The words counted so far, and those of the blocks that are left. Assumes nothing.
use Rattle.std.proofs.Common.{◌≡◌, ◌+◌, ◌*◌, ◌≤◌, map, length, drop}
use Rattle.digits.specs.Lists.{joined}
use Rattle.deck.specs.Deck.{blocks_of, words_in, words_of}
use Rattle.deck.proofs.count_words.Given as goal

abbrev pub invariant-loop-block : goal.invariant-loop-block
invariant-loop-block l = (l.total ≤ 62 * l.block-index) × (l.total + length (joined (map words_in (drop l.block-index (blocks_of l.fn.deck)))) ≡ length (words_of l.fn.deck))
