-- 15, then the blocks, then 19, then the words. Assumes nothing.
use Rattle.std.proofs.Common.{◌≡◌, false, length, sym, ◌∙◌, arith}
use Rattle.std.proofs.lemmas.Result.{err_from_is_err_and}
use Rattle.digits.specs.declared.refusal.Refusal.TheVariants as R
use Rattle.deck.specs.Deck.{length_wrong}
use Rattle.deck.proofs.Answers.{read_block, read_room, read_none, refused, accepted}
use Rattle.deck.proofs.read.Goals as goal

pub returns-then-length_wrong : goal.returns-then-length_wrong
returns-then-length_wrong c = refused _ _ R.DeckLength (rw (← c.length_wrong.ensures, c.if-length_wrong.true))

pub returns-in_err-deck_fault : goal.returns-in_err-deck_fault
returns-in_err-deck_fault c =
    let right : length_wrong (length c.args.deck.now) ≡ false = sym c.length_wrong.ensures ∙ c.if-length_wrong.false in
    let p = err_from_is_err_and c.from_residual.result c.from_residual.ensures.1 in
    rw (p.1, p.2) (refused _ _ _ (read_block _ _ right _ (sym c.in_err-deck_fault.ensures)))

pub returns-then-words-count : goal.returns-then-words-count
returns-then-words-count c =
    let right : length_wrong (length c.args.deck.now) ≡ false = sym c.length_wrong.ensures ∙ c.if-length_wrong.false in
    refused _ _ R.Room (read_room _ _ right (sym c.in_ok-deck_fault.ensures) (omega arith))

pub returns : goal.returns
returns c =
    let right : length_wrong (length c.args.deck.now) ≡ false = sym c.length_wrong.ensures ∙ c.if-length_wrong.false in
    let a = c.args in
    let r = accepted a.deck.now a.words.now (read_none _ _ right (sym c.in_ok-deck_fault.ensures) (omega arith)) in
    (rw c.count_words-count.ensures r.0, c.put_all.ensures ∙ r.1)
