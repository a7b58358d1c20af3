-- The words of each. Assumes nothing.
use mathlib.Core.Path.{sym, subst}
use Rattle.ship.specs.Block.{OneBlock}
use Rattle.ship.proofs.Shipped.{add_fits, apsp_fits, trap_fits, readings_fit}
use Rattle.ship.proofs.Deck.bytes.Goals as goal

pub deck_of-requires : goal.deck_of-requires
deck_of-requires c = subst OneBlock (sym c.words.ensures) add_fits

pub deck_of-requires-in-Apsp : goal.deck_of-requires-in-Apsp
deck_of-requires-in-Apsp c = subst OneBlock (sym c.words-in-Apsp.ensures) apsp_fits

pub deck_of-requires-in-Trap : goal.deck_of-requires-in-Trap
deck_of-requires-in-Trap c = subst OneBlock (sym c.lesson.ensures) trap_fits

pub deck_of-requires-in-Readings : goal.deck_of-requires-in-Readings
deck_of-requires-in-Readings c = subst OneBlock (sym c.readings.ensures) readings_fit
