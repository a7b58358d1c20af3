-- The words of each deck that is shipped. Assumes nothing.
use Rattle.std.specs.Prelude.{ℕ, List}
use Rattle.decimal.specs.Program.{shipped}
use Rattle.apsp.specs.Program.{signed_words}
use Rattle.ship.specs.Lesson.{lesson}
use Rattle.ship.specs.Readings.{readings}
use Rattle.ship.specs.declared.Deck.{Deck}
use Rattle.ship.specs.declared.Deck.TheVariants as D

abbrev pub words_of : Deck → List ℕ
words_of D.Add = shipped
words_of D.Apsp = signed_words
words_of D.Trap = lesson
words_of D.Readings = readings
