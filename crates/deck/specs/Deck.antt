-- "The deck", in the paper's order and words. Assumes nothing.
use Rattle.std.specs.Prelude.{ℕ, ◌+◌, ◌-◌, ◌*◌, ◌/◌, ◌%◌, ◌^◌, Bool, cond, not, ◌||◌, List, [], ◌∷◌, ◌++◌, map, length, take, drop, replicate, ◌==◌, nat_lt, slice_index, Result, Ok, Err}
use Rattle.digits.specs.Line.{total, parts, join}
use Rattle.digits.specs.declared.refusal.Refusal.{Refusal}
use Rattle.digits.specs.declared.refusal.Refusal.TheVariants as R
use Rattle.digits.specs.Refusal.{Check, first, answer}
use Rattle.word.specs.Layout.{line_of}
use Rattle.word.specs.Word.{fault_checks}
use Rattle.digits.specs.Lent.{over}
use Rattle.digits.specs.Sizes.{room_wrong}
use Rattle.digits.specs.Lists.{pieces, joined, placed, in_turn, all_zero}
use Rattle.digits.specs.Number.{digits_of, number_of}

-- "Blocks of 512 bytes: 64 groups of 8, high byte first."
unfoldable pub groups_of : List ℕ → List ℕ
groups_of block = map (number_of 8) (pieces 8 64 block)

unfoldable pub bytes_of : List ℕ → List ℕ
bytes_of gs = joined (map (digits_of 8 8) gs)

-- the blocks of a deck, each as its groups
unfoldable pub blocks_of : List ℕ → List (List ℕ)
blocks_of deck = map groups_of (pieces 512 (length deck / 512) deck)

-- block b of a deck
abbrev pub block_at : List ℕ → ℕ → List ℕ
block_at deck b = groups_of (take 512 (drop (b * 512) deck))

-- "Group 0: block number from 0 (2 bytes), count (2), reserved zero (4)."
abbrev pub head_widths : List ℕ
head_widths = 16 ∷ 16 ∷ 32 ∷ []

abbrev pub head_of : ℕ → ℕ → ℕ
head_of number count = join head_widths (number ∷ count ∷ 0 ∷ [])

abbrev pub head_in : List ℕ → List ℕ
head_in gs = parts head_widths (slice_index gs 0)

abbrev pub number_in : List ℕ → ℕ
number_in gs = slice_index (head_in gs) 0

abbrev pub count_in : List ℕ → ℕ
count_in gs = slice_index (head_in gs) 1

abbrev pub reserved_in : List ℕ → ℕ
reserved_in gs = slice_index (head_in gs) 2

-- "Groups 1 to 62: words.": as many as the count says, and the unused groups after them
abbrev pub words_in : List ℕ → List ℕ
words_in gs = take (count_in gs) (drop 1 gs)

abbrev pub unused_in : List ℕ → List ℕ
unused_in gs = drop (1 + count_in gs) (take 63 gs)

-- "Group 63: the sum of groups 0 to 62, wrapping at 64 bits."
unfoldable pub check_of : List ℕ → ℕ
check_of gs = total (take 63 gs) % 2 ^ 64

abbrev pub check_in : List ℕ → ℕ
check_in gs = slice_index gs 63

-- "Count is 62 in every block but the last, 1 to 62 there;"
abbrev pub count_wrong : Bool → ℕ → Bool
count_wrong last count = cond last (count == 0 || nat_lt 62 count) (not (count == 62))

-- "words total at most 4,096 (else 17)": every block before block b has 62
abbrev pub total_wrong : ℕ → ℕ → Bool
total_wrong b count = nat_lt 4096 (62 * b + count)

-- "Unused groups are zero."
abbrev pub unused_wrong : List ℕ → Bool
unused_wrong gs = not (all_zero (unused_in gs))

-- 15: deck length 0, not a multiple of 512, or over 34,304
abbrev pub length_wrong : ℕ → Bool
length_wrong l = l == 0 || (not (l % 512 == 0) || nat_lt 34304 l)

-- 16: block number not its place
abbrev pub place_wrong : ℕ → List ℕ → Bool
place_wrong b gs = not (number_in gs == b)

-- 17: count, reserved or unused bytes wrong, in block b of n
abbrev pub shape_wrong : ℕ → ℕ → List ℕ → Bool
shape_wrong n b gs =
    count_wrong (b + 1 == n) (count_in gs) || (total_wrong b (count_in gs) || (not (reserved_in gs == 0) || unused_wrong gs))

-- 18: block check wrong
abbrev pub check_wrong : List ℕ → Bool
check_wrong gs = not (check_of gs == check_in gs)

-- 3 to 9, of a word at its own address
unfoldable pub word_checks : ℕ → ℕ → List (Check Refusal)
word_checks address word = fault_checks word address (line_of word)

-- "16, 17, 18 and words 3 to 9", of block b of n
unfoldable pub block_checks : ℕ → ℕ → List ℕ → List (Check Refusal)
block_checks n b gs =
    (R.BlockNumber, place_wrong b gs) ∷
    (R.BlockShape, shape_wrong n b gs) ∷
    (R.BlockCheck, check_wrong gs) ∷
    in_turn word_checks (62 * b) (words_in gs)

-- the words of a deck, block by block
unfoldable pub words_of : List ℕ → List ℕ
words_of deck = joined (map words_in (blocks_of deck))

-- "block by block 16, 17, 18 and words 3 to 9"
abbrev pub deck_checks : List ℕ → List (Check Refusal)
deck_checks deck = in_turn (block_checks (length deck / 512)) 0 (blocks_of deck)

-- "The reader checks 15, then block by block 16, 17, 18 and words 3 to 9, then 19;"
abbrev pub read_checks : List ℕ → ℕ → List (Check Refusal)
read_checks deck room =
    (R.DeckLength, length_wrong (length deck)) ∷ (deck_checks deck ++ ((R.Room, room_wrong (length (words_of deck)) room) ∷ []))

-- "Accepted, it gives the number of words"
unfoldable pub read_of : List ℕ → ℕ → Result ℕ Refusal
read_of deck room = answer (first (read_checks deck room)) Err (Ok (length (words_of deck)))

-- "and writes those and nothing past them"; "refused, it writes nothing."
unfoldable pub words_after : List ℕ → List ℕ → List ℕ
words_after deck words = answer (first (read_checks deck (length words))) (λ r. words) (over (words_of deck) words)

-- the block of at most 62 words at its place, as its groups
abbrev pub sealed : List ℕ → List ℕ
sealed gs = gs ++ (check_of gs ∷ [])

unfoldable pub block_of : ℕ → List ℕ → List ℕ
block_of b ws = sealed (head_of b (length ws) ∷ (ws ++ replicate (62 - length ws) 0))

-- how many blocks n words make
abbrev pub block_count : ℕ → ℕ
block_count n = (n + 61) / 62

unfoldable pub blocks_for : List ℕ → List (List ℕ)
blocks_for ws = placed block_of 0 (pieces 62 (block_count (length ws)) ws)

unfoldable pub deck_of : List ℕ → List ℕ
deck_of ws = joined (map bytes_of (blocks_for ws))

-- 21: writer given no words or over 4,096
abbrev pub words_wrong : ℕ → Bool
words_wrong n = n == 0 || nat_lt 4096 n

-- "The writer checks 21, each word by 3 to 9, then 19,"
abbrev pub write_checks : List ℕ → ℕ → List (Check Refusal)
write_checks ws room =
    (R.WordCount, words_wrong (length ws)) ∷ (in_turn word_checks 0 ws ++ ((R.Room, room_wrong (512 * block_count (length ws)) room) ∷ []))

-- "and writes 512 bytes a block"
unfoldable pub write_of : List ℕ → ℕ → Result ℕ Refusal
write_of ws room = answer (first (write_checks ws room)) Err (Ok (512 * block_count (length ws)))

-- "and nothing past them; refused, it writes nothing."
unfoldable pub deck_after : List ℕ → List ℕ → List ℕ
deck_after ws deck = answer (first (write_checks ws (length deck))) (λ r. deck) (over (deck_of ws) deck)
