-- The number of words is small. Assumes nothing.
use mathlib.Core.Path.{sym, ap, ap₂, subst, ◌∙◌}
use Rattle.panel.specs.Answers.{answered, count_of, read_deck_call}
use Rattle.panel.proofs.Decks.{Fits, read_fits}
use Rattle.panel.proofs.panel_read_deck.Goals as goal

pub count_of-requires : goal.count_of-requires
count_of-requires c = subst Fits (sym c.read.ensures.0) (read_fits c.args.deck.now _)

pub returns : goal.returns
unfolding read_deck_call
returns c = ap₂ answered (c.count_of.ensures ∙ ap count_of c.read.ensures.0) c.read.ensures.1
