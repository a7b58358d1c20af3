-- The number of bytes is small. Assumes nothing.
use mathlib.Core.Path.{sym, ap, ap₂, subst, ◌∙◌}
use Rattle.panel.specs.Answers.{answered, count_of, write_deck_call}
use Rattle.panel.proofs.Decks.{Fits, write_fits}
use Rattle.panel.proofs.panel_write_deck.Goals as goal

pub count_of-requires : goal.count_of-requires
count_of-requires c = subst Fits (sym c.write.ensures.0) (write_fits c.args.words.now _)

pub returns : goal.returns
unfolding write_deck_call
returns c = ap₂ answered (c.count_of.ensures ∙ ap count_of c.write.ensures.0) c.write.ensures.1
