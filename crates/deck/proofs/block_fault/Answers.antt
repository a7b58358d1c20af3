-- 16, 17, 18, then the words. Assumes nothing.
use Rattle.std.proofs.Common.{◌≡◌, ◌+◌, ◌-◌, false, sym, ◌∙◌}
use native.Mathlib.Nat.{add-sub_cancel_left}
use Rattle.deck.specs.Deck.{number_in, count_in, shape_wrong, check_of, check_in}
use Rattle.deck.proofs.Blocks.{gives_16, gives_17, gives_18, gives_word}
use Rattle.deck.proofs.block_fault.Goals as goal

pub returns-then-number_in-b : goal.returns-then-number_in-b
returns-then-number_in-b c = sym (gives_16 _ _ _ (λ e. c.if-number_in-b.true (c.number_in.ensures ∙ e)))

pub returns-then-shape_wrong : goal.returns-then-shape_wrong
returns-then-shape_wrong c =
    let number : number_in c.args.gs ≡ c.args.b = sym c.number_in.ensures ∙ c.if-number_in-b.false in
    sym (gives_17 _ _ _ (number) (sym c.shape_wrong.ensures ∙ c.if-shape_wrong.true))

pub returns-then-block_check-gs : goal.returns-then-block_check-gs
returns-then-block_check-gs c =
    let number : number_in c.args.gs ≡ c.args.b = sym c.number_in.ensures ∙ c.if-number_in-b.false in
    let shape : shape_wrong c.args.n c.args.b c.args.gs ≡ false = sym c.shape_wrong.ensures ∙ c.if-shape_wrong.false in
    sym (gives_18 _ _ _ (number) (shape) (λ e. c.if-block_check-gs.true (c.block_check.ensures ∙ e)))

pub returns : goal.returns
returns c =
    let check : check_of c.args.gs ≡ check_in c.args.gs = sym c.block_check.ensures ∙ c.if-block_check-gs.false in
    let number : number_in c.args.gs ≡ c.args.b = sym c.number_in.ensures ∙ c.if-number_in-b.false in
    let shape : shape_wrong c.args.n c.args.b c.args.gs ≡ false = sym c.shape_wrong.ensures ∙ c.if-shape_wrong.false in
    let n = c.count_in-end in
    let gs = c.args.gs in
    let k : 1 + n.result - 1 ≡ count_in gs = add-sub_cancel_left 1 n.result ∙ n.ensures.0 in
    c.words_fault.ensures
    ∙ rw k (sym (gives_word _ _ _ (number) (shape) (check)))
