-- The two round trips, of what `read` and `write` promise. Assumes nothing.
use Rattle.std.proofs.Common.{◌≡◌, ℕ, suc, ◌*◌, ◌/◌, ◌^◌, ◌<◌, ◌≤◌, List, [], ◌∷◌, map, length, get_or, take, sym, refl, ap, ◌∙◌, subst, zero-add, arith, take_at, le-ltb, leb-false, None, Ok}
use Rattle.digits.specs.declared.refusal.Refusal.TheVariants as R
use Rattle.digits.specs.Refusal.{first}
use Rattle.digits.proofs.Refusals.{NoneHolds, none_first}
use Rattle.digits.specs.Lent.{over}
use Rattle.digits.specs.Lists.{pieces, in_turn, joined}
use Rattle.deck.specs.Deck.{groups_of, blocks_of, bytes_of, words_in, words_of, word_checks, deck_checks, read_checks, read_of, words_after, block_count, blocks_for, deck_of, words_wrong, write_checks, write_of, deck_after}
use Rattle.digits.specs.Table.{Each}
use Rattle.digits.proofs.Table.{Below, each, each_split}
use Rattle.deck.proofs.Groups.{length_blocks}
use Rattle.deck.proofs.Answers.{Sized, sized, right_length, right_words, few, past, byte_count, read_none, accepted, write_accepted, Read, was_read, taken, Wrote, wrote}
use Rattle.deck.proofs.Through.{Block, blocks_bytes_lem, blocks_are, bytes_blocks}
use Rattle.deck.proofs.Written.{made, length_made, length_deck}
use Rattle.deck.proofs.Back.{Holds, holds}
use Rattle.deck.proofs.Again.{Again, again}

-- ---- written, then read

-- 3 refuses a word of more than 55 bits
word_below : (a w : ℕ) → NoneHolds (word_checks a w) → w < 2 ^ 64
unfolding word_checks
word_below a w h = omega (arith, leb-false (2 ^ 55) w h.0)

words_below : (a : ℕ) (ws : List ℕ) → NoneHolds (in_turn word_checks a ws) → Below (2 ^ 64) ws
words_below a [] h = tt
words_below a (w ∷ ws) h = let (here, later) = each_split _ (word_checks a w) _ h in (word_below a w here, words_below (suc a) ws later)

module _ {ws : List ℕ} {room₀ n₀ : ℕ} (w : Wrote ws room₀ n₀) where
  n : ℕ
  n = block_count (length ws)

  held : Holds n 0 n ws
  unfolding n
  held =
      let k = few (length ws) w.length_right in
      holds n 0 n ws (record { places = zero-add n; few = omega arith; most = omega arith; least = omega arith; total = omega arith }) w.none (words_below 0 ws w.none)

  blocks_are_made : blocks_for ws ≡ made n 0 ws
  unfolding blocks_for n
  blocks_are_made = refl

  count : length (deck_of ws) / 512 ≡ n
  unfolding n
  count = let l = length_deck ws in omega arith

  blocks : blocks_of (deck_of ws) ≡ made n 0 ws
  unfolding blocks_of deck_of
  blocks =
      rw (count, blocks_are_made) (ap (λ (k : ℕ). map groups_of (pieces 512 k (joined (map bytes_of (made n 0 ws))))) (sym (length_made n 0 ws)) ∙ blocks_bytes_lem (made n 0 ws) held.blocks)

  words_back : words_of (deck_of ws) ≡ ws
  unfolding words_of
  words_back = rw blocks held.words

  none_back : NoneHolds (deck_checks (deck_of ws))
  none_back = rw (count, blocks) held.none

  read_back : (room : ℕ) → length ws ≤ room → first (read_checks (deck_of ws) room) ≡ None
  unfolding n
  read_back room h =
      let k = few (length ws) w.length_right in
      let l = length_deck ws in
      read_none (deck_of ws) room (right_length (length (deck_of ws)) (record { some = λ e. omega arith; whole = omega arith; most = omega arith }))
      (none_first (deck_checks (deck_of ws)) none_back) (subst (λ (m : List ℕ). length m ≤ room) (sym words_back) h)

-- where `write` gives the number of bytes, `read` of those bytes gives the words back
pub written_read : (ws deck words : List ℕ) (n : ℕ) → write_of ws (length deck) ≡ Ok n → length ws ≤ length words
    → (read_of (take n (deck_after ws deck)) (length words) ≡ Ok (length ws)) × (words_after (take n (deck_after ws deck)) words ≡ over ws words)
written_read ws deck words n e room =
    let w = wrote ws (length deck) n e in
    let back = words_back w in
    let r = accepted (deck_of ws) words (read_back w (length words) room) in
    let t : take n (deck_after ws deck) ≡ deck_of ws = ap (take n) (sym (write_accepted ws deck w.all).1) ∙ take_at (deck_of ws) _ n (length_deck ws ∙ w.count) in
    let x : Ok (length ws) ≡ read_of (deck_of ws) (length words) = rw back at r.0 in
    let y : over ws words ≡ words_after (deck_of ws) words = rw back at r.1 in
    rw t (sym x, sym y)

-- ---- read, then written

module _ {deck : List ℕ} {room₀ n₀ : ℕ} (bytes : Below 256 deck) (r : Read deck room₀ n₀) where
  size : Sized (length deck)
  size = sized (length deck) r.length_right

  pieced : length deck ≡ length deck / 512 * 512
  pieced = let s = size.whole in omega arith

  every_block : Each Block (blocks_of deck)
  unfolding blocks_of
  every_block = blocks_are (length deck / 512) deck pieced bytes

  same : Again 0 (blocks_of deck)
  same =
      let m = size.most in
      again 0 (length deck / 512) (blocks_of deck) every_block (zero-add _ ∙ length_blocks deck) (omega arith) r.none

  words_are : words_of deck ≡ joined (map words_in (blocks_of deck))
  unfolding words_of
  words_are = refl

  count_again : block_count (length (words_of deck)) ≡ length (blocks_of deck)
  count_again =
      let l = same.least in
      let m = same.most in
      let e = ap length words_are in
      omega arith

  bytes_again : joined (map bytes_of (blocks_of deck)) ≡ deck
  unfolding blocks_of
  bytes_again = bytes_blocks (length deck / 512) deck pieced bytes

  deck_again : deck_of (words_of deck) ≡ deck
  unfolding deck_of blocks_for
  deck_again = rw (count_again, words_are) (ap (λ (bs : List (List ℕ)). joined (map bytes_of bs)) same.same ∙ bytes_again)

  size_again : 512 * block_count (length (words_of deck)) ≡ length deck
  size_again =
      let k = count_again ∙ length_blocks deck in
      let s = size.whole in
      omega arith

  write_again : (room : ℕ) → length deck ≤ room → first (write_checks (words_of deck) room) ≡ None
  write_again room h =
      let l = same.least in
      let t = same.total in
      let e = ap length words_are in
      let s = size.some in
      let k = length_blocks deck in
      let p = pieced in
      let j = size_again in
      rw (
        past R.WordCount words_wrong (in_turn word_checks 0) byte_count (words_of deck) room (right_words (length (words_of deck)) (omega arith) (omega arith)),
        none_first (in_turn word_checks 0 (words_of deck)) (rw words_are same.none),
        le-ltb room (512 * block_count (length (words_of deck))) (omega arith),
      )

-- "words total at most 4,096"
pub few_words : (deck words : List ℕ) (n : ℕ) → ((i : ℕ) → get_or deck i 0 < 256) → read_of deck (length words) ≡ Ok n → n ≤ 4096
few_words deck words n bytes e =
    let r = was_read deck (length words) n e in
    let below = each (λ (x : ℕ). x < 256) deck 0 bytes in
    omega (arith, (same below r).total, ap length (words_are below r), r.count)

-- where `read` gives the number of words, `write` of those words gives the same deck
pub read_written : (deck words out : List ℕ) (n : ℕ) → ((i : ℕ) → get_or deck i 0 < 256) → read_of deck (length words) ≡ Ok n → length deck ≤ length out
    → (write_of (take n (words_after deck words)) (length out) ≡ Ok (length deck)) × (deck_after (take n (words_after deck words)) out ≡ over deck out)
read_written deck words out n bytes e room =
    let r = was_read deck (length words) n e in
    let below = each (λ (x : ℕ). x < 256) deck 0 bytes in
    let again = deck_again below r in
    let w = write_accepted (words_of deck) out (write_again below r (length out) room) in
    let x : Ok (length deck) ≡ write_of (words_of deck) (length out) = rw (size_again below r) at w.0 in
    let y : over deck out ≡ deck_after (words_of deck) out = rw again at w.1 in
    rw (taken deck words n r) (sym x, sym y)
