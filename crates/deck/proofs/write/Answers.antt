-- 21, then the words, then 19, then the deck. Assumes nothing.
use Rattle.std.proofs.Common.{length, ◌∙◌, arith, lt-ltb, le-ltb}
use Rattle.std.proofs.lemmas.Result.{err_from_is_err_and}
use Rattle.digits.specs.Lists.{in_turn}
use Rattle.digits.specs.declared.refusal.Refusal.TheVariants as R
use Rattle.deck.specs.Deck.{words_wrong, word_checks}
use Rattle.deck.proofs.Answers.{past, byte_count, write_refused, write_accepted}
use Rattle.deck.proofs.write.Goals as goal

pub returns-then-count : goal.returns-then-count
returns-then-count c = write_refused _ _ R.WordCount (rw c.if-count.true)

pub returns-in_err-words_fault : goal.returns-in_err-words_fault
returns-in_err-words_fault c =
    let a = c.args in
    let p = err_from_is_err_and c.from_residual.result c.from_residual.ensures.1 in
    rw (p.1, p.2) (write_refused _ _ _ (past R.WordCount words_wrong (in_turn word_checks 0) byte_count a.words.now (length a.deck.now) c.if-count.false ∙ rw (← c.in_err-words_fault.ensures)))

pub returns-then-deck-bytes : goal.returns-then-deck-bytes
returns-then-deck-bytes c =
    let a = c.args in
    write_refused _ _ R.Room (past R.WordCount words_wrong (in_turn word_checks 0) byte_count a.words.now (length a.deck.now) c.if-count.false ∙ rw (← c.in_ok-words_fault.ensures, lt-ltb (length a.deck.now) (byte_count a.words.now) (omega arith)))

pub returns : goal.returns
returns c =
    let a = c.args in
    let r = write_accepted _ _ (past R.WordCount words_wrong (in_turn word_checks 0) byte_count a.words.now (length a.deck.now) c.if-count.false ∙ rw (← c.in_ok-words_fault.ensures, le-ltb (length a.deck.now) (byte_count a.words.now) (omega arith))) in
    (r.0, c.put_deck.ensures ∙ r.1)
