-- Words whose deck is one block. Assumes nothing.
use Rattle.std.specs.Prelude.{ℕ, ◌≡◌, List, length, None}
use Rattle.digits.specs.Refusal.{first}
use Rattle.deck.specs.Deck.{write_checks, deck_of}

-- the writer refuses none of them, and fills 512 bytes
unfoldable pub OneBlock : List ℕ → Type 0
OneBlock words = (first (write_checks words 512) ≡ None) × (length (deck_of words) ≡ 512)
