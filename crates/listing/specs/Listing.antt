-- The lister's text. Assumes nothing.
use Rattle.std.specs.Prelude.{ℕ, List, [], ◌∷◌, ◌++◌}
use Rattle.digits.specs.Refusal.{refusal_number, first, answer}
use Rattle.digits.specs.Lists.{in_turn}
use Rattle.text.specs.Ascii.{ascii}
use Rattle.text.specs.Text.{hexadecimal, decimal}
use Rattle.deck.specs.Deck.{read_checks, words_of}

-- "per word, address as 3 hexadecimal digits, a space, the word as 14, capitals, line feed."
unfoldable pub text_line : ℕ → ℕ → List ℕ
text_line address word = hexadecimal 3 address ++ (32 ∷ (hexadecimal 14 word ++ (10 ∷ [])))

-- "No header."
unfoldable pub lines_of : List ℕ → List ℕ
lines_of ws = in_turn text_line 0 ws

-- "A refused deck prints only `REFUSED `, the number in decimal and a line feed."
unfoldable pub refusal_of : ℕ → List ℕ
refusal_of n = ascii "REFUSED " ++ (decimal n ++ (10 ∷ []))

-- what is printed of a deck, from a room of 4,096 words
unfoldable pub text_of : List ℕ → List ℕ
text_of deck = answer (first (read_checks deck 4096)) (λ r. refusal_of (refusal_number r)) (lines_of (words_of deck))
