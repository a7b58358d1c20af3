-- One block a turn: the front that is put, and the words of the blocks that are left. Assumes nothing.
use Rattle.std.proofs.Common.{map, drop}
use Rattle.digits.specs.Lists.{joined}
use Rattle.deck.specs.Deck.{blocks_of, words_in, words_of}
use Rattle.digits.proofs.Puts.{Put}
use Rattle.deck.proofs.put_all.Given as goal

abbrev pub invariant-loop-block : goal.invariant-loop-block
invariant-loop-block l = Put (words_of l.fn.deck) l.initial.words (joined (map words_in (drop l.block-index (blocks_of l.fn.deck)))) l.words l.done
