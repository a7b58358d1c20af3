-- The checks of the blocks that are left, against those of all. Assumes nothing.
use Rattle.std.proofs.Common.{◌≡◌, ℕ, ◌+◌, ◌/◌, ◌<◌, [], List, length, get_or, sym, ◌∙◌, zero-add, arith, drop_of_length-le}
use Rattle.std.proofs.lemmas.Result.{err_from_is_err_and}
use Rattle.digits.specs.Refusal.{first}
use Rattle.deck.specs.Deck.{blocks_of, block_at, block_checks}
use Rattle.deck.proofs.Turns.{turn_step, turn_stop}
use Rattle.deck.proofs.Groups.{length_blocks, blocks_at, block_is}
use Rattle.deck.proofs.deck_fault.Goals as goal

-- the checks of a block, by its place in the list
found : (deck : List ℕ) (n b : ℕ) → b < length deck / 512 → first (block_checks n (0 + b) (get_or (blocks_of deck) b [])) ≡ first (block_checks n b (block_at deck b))
found deck n b h = rw (blocks_at deck b h, zero-add b)

pub returns-in_err-block_fault : goal.returns-in_err-block_fault
returns-in_err-block_fault c =
    let l = c.loop-b in
    let deck = c.args.deck.now in
    let n = length deck / 512 in
    let h : l.b < n = omega (arith, c.blocks_in-blocks.ensures.1) in
    let g : c.groups_of.result ≡ block_at deck l.b = c.groups_of.ensures ∙ block_is deck _ l.b c.blocks_in-blocks.ensures.0 h in
    let p = err_from_is_err_and c.from_residual.result c.from_residual.ensures.1 in
    rw (p.1, p.2) (turn_stop (block_checks n) [] (blocks_of deck) 0 l.b _ (rw length_blocks h) (found deck n l.b h ∙ rw (← g, ← c.blocks_in-blocks.ensures.1) (sym c.in_err-block_fault.ensures)) ∙ l.invariant)

pub loop-b-preserved : goal.loop-b-preserved
loop-b-preserved c =
    let l = c.loop-b in
    let deck = c.args.deck.now in
    let n = length deck / 512 in
    let h : l.b < n = omega (arith, c.blocks_in-blocks.ensures.1) in
    let g : c.groups_of.result ≡ block_at deck l.b = c.groups_of.ensures ∙ block_is deck _ l.b c.blocks_in-blocks.ensures.0 h in
    turn_step (block_checks n) [] (blocks_of deck) 0 l.b (rw length_blocks h) (found deck n l.b h ∙ rw (← g, ← c.blocks_in-blocks.ensures.1) (sym c.in_ok-block_fault.ensures)) ∙ l.invariant

pub returns : goal.returns
returns c =
    let l = c.loop-b in
    rw (drop_of_length-le (blocks_of c.args.deck.now) {i = l.b} (rw length_blocks (omega (arith, c.blocks_in-blocks.ensures.1)))) at l.invariant
