-- One block a turn: the front that is put, and the words of the blocks that are left. Assumes nothing.
use Rattle.std.proofs.Common.{◌≡◌, ◌+◌, ◌/◌, ◌<◌, ◌++◌, length, take, drop, refl, ◌∙◌, arith, drop_of_length-le}
use Rattle.deck.specs.Deck.{blocks_of, block_at, count_in, words_in, words_of}
use Rattle.digits.proofs.Puts.{put_none, put_room, put_turn, put_all}
use Rattle.deck.proofs.Groups.{length_groups, length_blocks, block_is}
use Rattle.deck.proofs.Decks.{length_words, some_at, words_step}
use Rattle.deck.proofs.put_all.Goals as goal

pub loop-block-init : goal.loop-block-init
unfolding words_of
loop-block-init c = put_none (words_of c.args.deck.now) c.args.words.now

pub put_words-done-requires : goal.put_words-done-requires
put_words-done-requires c =
    let l = c.loop-block in
    let deck = c.args.deck.now in
    let h : l.block-index < length deck / 512 = omega (arith, c.blocks_in-block-items.ensures.1) in
    let k = some_at deck l.block-index h c.requires.deck_len_bound.1 in
    let w = length_words (block_at deck l.block-index) (length_groups _) k.1 in
    let r = put_room l.invariant (words_in (block_at deck l.block-index)) _ (words_step deck l.block-index h) in
    rw (c.groups_of.ensures, block_is deck _ l.block-index c.blocks_in-block-items.ensures.0 h) (k.1, omega arith)

pub loop-block-preserved : goal.loop-block-preserved
loop-block-preserved c =
    let l = c.loop-block in
    let f = c.put_words-done in
    let deck = c.args.deck.now in
    let h : l.block-index < length deck / 512 = omega (arith, c.blocks_in-block-items.ensures.1) in
    let gs = block_at deck l.block-index in
    let g : c.groups_of.result ≡ gs = c.groups_of.ensures ∙ block_is deck _ l.block-index c.blocks_in-block-items.ensures.0 h in
    let k = some_at deck l.block-index h c.requires.deck_len_bound.1 in
    let w = length_words gs (length_groups _) k.1 in
    let e : (f.result ≡ l.done + count_in gs) × (f.new.words ≡ take l.done l.words ++ (words_in gs ++ drop (count_in gs) (drop l.done l.words))) =
    rw g at f.ensures in
    rw (e.0, e.1) (put_turn l.invariant (words_in gs) _ (words_in gs) (count_in gs) (words_step deck l.block-index h) w refl c.requires.deck_in_bounds)

pub returns : goal.returns
returns c =
    let l = c.loop-block in
    let deck = c.args.deck.now in
    put_all (rw (drop_of_length-le (blocks_of deck) {i = l.block-index} (rw length_blocks (omega (arith, c.blocks_in-block-items.ensures.1)))) at l.invariant)
