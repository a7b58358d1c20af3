-- No word of any of the four is refused, and the deck of each is one block. Assumes nothing.
use Prim.Native.Nat.{ℕ}
use mathlib.Core.Path.{◌≡◌, refl, sym, subst, ◌∙◌}
use mathlib.Core.List.{List}
use native.Mathlib.Omega.{arith}
use lib.Count.{ones}
use lib.ListN.{length}
use Rattle.std.specs.Prelude.{None}
use Rattle.digits.specs.Refusal.{first}
use Rattle.digits.proofs.Copies.{over_full}
use Rattle.word.specs.Word.{packed, in_width}
use Rattle.deck.specs.Deck.{word_checks, write_checks, deck_of, deck_after}
use Rattle.deck.proofs.Answers.{write_accepted}
use Rattle.deck.proofs.Written.{length_deck}
use Rattle.decimal.specs.Program.{shipped}
use Rattle.apsp.specs.Program.{signed_words}
use Rattle.ship.specs.Block.{OneBlock}
use Rattle.ship.specs.Lesson.{lesson}
use Rattle.ship.specs.Readings.{readings}

pub add_fits : OneBlock shipped
unfolding OneBlock word_checks shipped packed in_width ones
add_fits = (refl, length_deck shipped)

pub apsp_fits : OneBlock signed_words
unfolding OneBlock word_checks signed_words packed in_width ones
apsp_fits = (refl, length_deck signed_words)

pub trap_fits : OneBlock lesson
unfolding OneBlock word_checks lesson shipped packed in_width ones
trap_fits = (refl, length_deck lesson)

pub readings_fit : OneBlock readings
unfolding OneBlock word_checks readings packed in_width ones
readings_fit = (refl, length_deck readings)

pub written : (words room : List ℕ) → OneBlock words → length room ≡ 512 → deck_after words room ≡ deck_of words
unfolding OneBlock
written words room (accepted, one_block) h =
    sym (write_accepted words room (subst (λ (n : ℕ). first (write_checks words n) ≡ None) (sym h) accepted)).1 ∙ over_full (deck_of words) room (omega (arith, one_block))
