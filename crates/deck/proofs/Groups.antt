-- A block's groups and bytes, and a deck's blocks. Assumes nothing.
use Rattle.std.proofs.Common.{◌≡◌, ℕ, ◌*◌, ◌/◌, ◌<◌, List, [], ◌∷◌, length, get_or, take, drop, refl, ◌∙◌, arith, length-append}
use Rattle.digits.specs.Lists.{pieces}
use Rattle.digits.specs.Number.{number_of, digits_of}
use Rattle.deck.specs.Deck.{groups_of, bytes_of, blocks_of, block_at}
use Rattle.digits.proofs.Lists.{length_each, each_at, pieces_at}

pub length_groups : (block : List ℕ) → length (groups_of block) ≡ 64
unfolding groups_of
length_groups block = length_each (number_of 8) 8 64 block

pub groups_at : (block : List ℕ) (i : ℕ) → i < 64 → get_or (groups_of block) i 0 ≡ number_of 8 (take 8 (drop (i * 8) block))
unfolding groups_of
groups_at block = each_at (number_of 8) 8 64 block 0

pub length_bytes : (gs : List ℕ) → length (bytes_of gs) ≡ length gs * 8
unfolding bytes_of
length_bytes [] = refl
length_bytes (g ∷ gs) = length-append (digits_of 8 8 g) (bytes_of gs) ∙ rw (length_bytes gs) (omega arith)

pub length_blocks : (deck : List ℕ) → length (blocks_of deck) ≡ length deck / 512
unfolding blocks_of
length_blocks deck = length_each groups_of 512 (length deck / 512) deck

pub blocks_at : (deck : List ℕ) (b : ℕ) → b < length deck / 512 → get_or (blocks_of deck) b [] ≡ block_at deck b
unfolding blocks_of
blocks_at deck = each_at groups_of 512 (length deck / 512) deck []

-- block b, among the pieces of the deck
pub block_is : (deck : List ℕ) (bs : List (List ℕ)) (b : ℕ) → bs ≡ pieces 512 (length deck / 512) deck → b < length deck / 512 → groups_of (get_or bs b []) ≡ block_at deck b
block_is deck bs b e h = rw (e, pieces_at 512 (length deck / 512) deck b h)
