-- The checks of the words that are left, against those of all. Assumes nothing.
use Rattle.std.proofs.Common.{◌≡◌, ℕ, sym, refl, ◌∙◌, arith, drop_of_length-le}
use Rattle.digits.specs.Refusal.{first}
use Rattle.word.specs.Word.{fault_of}
use Rattle.deck.specs.Deck.{word_checks}
use Rattle.deck.proofs.Turns.{turn_step, turn_stop}
use Rattle.deck.proofs.words_fault.Goals as goal

-- what `word::fault` gives is the first of a word's checks
fault_is : (a w : ℕ) → first (word_checks a w) ≡ fault_of w a
unfolding word_checks fault_of
fault_is a w = refl

pub returns-in-Some : goal.returns-in-Some
returns-in-Some c =
    let l = c.loop-i in
    let s = c.args in
    turn_stop word_checks 0 s.words.now s.start l.i _ (omega arith) (fault_is _ _ ∙ sym c.fault.ensures ∙ c.in-Some.is) ∙ l.invariant

pub loop-i-preserved : goal.loop-i-preserved
loop-i-preserved c =
    let l = c.loop-i in
    let s = c.args in
    turn_step word_checks 0 s.words.now s.start l.i (omega arith) (fault_is _ _ ∙ sym c.fault.ensures ∙ c.in_default.is) ∙ l.invariant

pub returns : goal.returns
returns c =
    let l = c.loop-i in
    rw (drop_of_length-le c.args.words.now {i = l.i} (omega arith)) at l.invariant
