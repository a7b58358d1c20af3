-- The words counted so far, and those of the blocks that are left. Assumes nothing.
use Rattle.std.proofs.Common.{◌≡◌, ◌/◌, ◌<◌, length, ap, ◌∙◌, zero-add, arith, length-append, drop_of_length-le, rules}
use Rattle.deck.specs.Deck.{blocks_of, block_at, count_in, words_in, words_of}
use Rattle.deck.proofs.Groups.{length_groups, length_blocks, block_is}
use Rattle.deck.proofs.Decks.{length_words, some_at, words_step}
use Rattle.deck.proofs.count_words.Goals as goal

pub loop-block-init : goal.loop-block-init
unfolding words_of
loop-block-init c = (search rules, zero-add _)

pub overflow_add-total : goal.overflow_add-total
overflow_add-total c = record { fits = omega (arith, c.blocks_in-block-items.ensures.1, c.count_in-total.ensures.1) }

pub loop-block-preserved : goal.loop-block-preserved
loop-block-preserved c =
    let i = c.loop-block.block-index in
    let deck = c.args.deck.now in
    let h : i < length deck / 512 = omega (arith, c.blocks_in-block-items.ensures.1) in
    let k = some_at deck i h c.requires.1 in
    let w = length_words (block_at deck i) (length_groups _) k.1 in
    let j = ap length (words_step deck i h) ∙ length-append (words_in (block_at deck i)) _ in
    let n : c.count_in-total.result ≡ count_in (block_at deck i) = c.count_in-total.ensures.0 ∙ ap count_in (c.groups_of.ensures ∙ block_is deck _ i c.blocks_in-block-items.ensures.0 h) in
    (omega arith, omega arith)

pub returns : goal.returns
returns c =
    let l = c.loop-block in
    let deck = c.args.deck.now in
    let e = rw (drop_of_length-le (blocks_of deck) {i = l.block-index} (rw length_blocks (omega (arith, c.blocks_in-block-items.ensures.1)))) at l.invariant.1 in
    omega arith
