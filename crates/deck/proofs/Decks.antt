-- The blocks of a deck of which none is refused. Assumes nothing.
use Rattle.std.proofs.Common.{◌≡◌, ℕ, ◌+◌, ◌/◌, ◌<◌, ◌≤◌, eqb, List, [], ◌++◌, map, length, drop, ◌∙◌, zero-add, arith, length-drop, length-take-le, None}
use Rattle.digits.specs.Refusal.{first}
use Rattle.digits.proofs.Refusals.{first_none}
use Rattle.digits.specs.Lists.{joined}
use Rattle.deck.specs.Deck.{blocks_of, block_at, count_in, words_in, block_checks, deck_checks}
use Rattle.deck.proofs.Turns.{none_at}
use Rattle.digits.proofs.Lists.{joined_step}
use Rattle.deck.proofs.Groups.{length_blocks, blocks_at}
use Rattle.deck.proofs.Blocks.{Good, good, some}

pub length_words : (gs : List ℕ) → length gs ≡ 64 → count_in gs ≤ 62 → length (words_in gs) ≡ count_in gs
length_words gs e h = length-take-le (count_in gs) (drop 1 gs) (rw length-drop (omega arith))

module _ (deck : List ℕ) (b : ℕ) (h : b < length deck / 512) where
  inside : b < length (blocks_of deck)
  inside = rw length_blocks h

  good_at : first (deck_checks deck) ≡ None → Good (length deck / 512) b (block_at deck b)
  good_at ok =
      good (length deck / 512) b (block_at deck b)
      (rw (zero-add, blocks_at deck b h) at (none_at (block_checks (length deck / 512)) [] (blocks_of deck) 0 (first_none (deck_checks deck) ok) b inside))

  pub some_at : first (deck_checks deck) ≡ None → (1 ≤ count_in (block_at deck b)) × (count_in (block_at deck b) ≤ 62)
  some_at ok = some (eqb (b + 1) (length deck / 512)) (count_in (block_at deck b)) (good_at ok).shape.count

  pub words_step : joined (map words_in (drop b (blocks_of deck))) ≡ words_in (block_at deck b) ++ joined (map words_in (drop (b + 1) (blocks_of deck)))
  words_step = joined_step words_in (blocks_of deck) [] b inside ∙ rw (blocks_at deck b h)
