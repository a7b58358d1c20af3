-- The words that were read lie in their room. Assumes nothing.
use Rattle.std.proofs.Common.{sym, ◌∙◌, arith, length-take-le}
use Rattle.deck.proofs.Answers.{was_read}
use Rattle.board.proofs.runs.from_files.Goals as goal

pub slice_bounds-words-end : goal.slice_bounds-words-end
slice_bounds-words-end g c =
    let r = was_read _ _ _ (sym c.read.ensures.0 ∙ c.in-Ok.is) in
    omega (arith, r.fits, r.count, c.read.auto.words)

pub slice_bounds-with_words-end : goal.slice_bounds-with_words-end
slice_bounds-with_words-end g c =
    let r = was_read _ _ _ (sym c.read.ensures.0 ∙ c.in-Ok.is) in
    sym (length-take-le c.in-Ok.count c.read.new.words (omega (arith, r.fits, r.count, c.read.auto.words)))
