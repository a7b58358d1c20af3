-- The sum so far with the groups that are left, against the whole. Assumes nothing.
use Rattle.std.proofs.Common.{ℕ, ◌%◌, ◌^◌, take, ap, ◌∙◌, zero-add, arith, drop_of_length-le}
use Rattle.deck.specs.Deck.{check_of}
use Rattle.deck.proofs.Walks.{sum_step}
use Rattle.deck.proofs.block_check.Goals as goal

pub loop-g-init : goal.loop-g-init
unfolding check_of
loop-g-init c = ap (λ (n : ℕ). n % 2 ^ 64) (zero-add _)

pub loop-g-preserved : goal.loop-g-preserved
loop-g-preserved c =
    let l = c.loop-g in
    sum_step (take 63 c.args.gs) l.g-index l.sum (omega arith) ∙ l.invariant

pub returns : goal.returns
returns c =
    let l = c.loop-g in
    let e = rw (drop_of_length-le (take 63 c.args.gs) {i = l.g-index} (omega arith)) at l.invariant in
    omega arith
