-- One block a turn: the front that is put, and the bytes of the blocks that are left. Assumes nothing.
use Rattle.std.proofs.Common.{◌≡◌, ◌*◌, length, drop}
use Rattle.deck.specs.Deck.{block_count, deck_of}
use Rattle.digits.proofs.Puts.{Put}
use Rattle.deck.proofs.Written.{rest_of}
use Rattle.deck.proofs.put_deck.Given as goal

abbrev pub invariant-loop-b : goal.invariant-loop-b
invariant-loop-b l =
    (l.b-iterator.iter.size ≡ 62) × (l.b-iterator.iter.rest.now ≡ drop (l.b-iterator.count * 62) l.words)
    × Put (deck_of l.words) l.initial.deck (rest_of l.words (block_count (length l.words)) l.b-iterator.count) l.deck (l.b-iterator.count * 512)
