-- The row of its number, or the words of 0. Assumes nothing.
use Rattle.std.proofs.Common.{le_refl}
use Rattle.text.specs.Ascii.{ascii}
use Rattle.text.specs.Words.{refusal_words, words_of}
use Rattle.text.proofs.Rows.{made_at, now_at}
use Rattle.text.proofs.refusals.words_of.Goals as goal

pub returns : goal.returns
unfolding words_of
returns c =
    rw (c.unwrap_or.ensures, c.copied.ensures, c.get.ensures.lookup.4 (le_refl c.from.result) _, now_at, c.from.ensures)
    (made_at ascii refusal_words c.args.number "no such refusal")
