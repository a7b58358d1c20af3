-- What `read` and `write` answer, test by test, and what stands in the room lent. Assumes nothing.
use Rattle.std.proofs.Common.{◌≡◌, ℕ, ◌*◌, ◌%◌, ◌<◌, ◌≤◌, Bool, false, cond, not, eqb, ltb, List, [], ◌∷◌, ◌++◌, length, take, sym, refl, ap, ◌∙◌, arith, take_at, ltb-false, le-ltb, lt-ltb, eq-eqb, ne_eqb, eqb-true, Some, None, Ok, Err}
use borrow.Author.Tests.{eqb-false, not-false}
use Rattle.digits.specs.declared.refusal.Refusal.{Refusal}
use Rattle.digits.specs.declared.refusal.Refusal.TheVariants as R
use Rattle.digits.specs.Refusal.{Check, first, answer}
use Rattle.digits.proofs.Refusals.{NoneHolds, none_first, result_tells, given_none, first_append}
use Rattle.digits.proofs.Table.{each_split}
use Rattle.digits.proofs.Truth.{neither}
use Rattle.digits.specs.Lent.{over}
use Rattle.digits.specs.Lists.{in_turn}
use Rattle.digits.specs.Sizes.{room_wrong}
use Rattle.deck.specs.Deck.{length_wrong, word_checks, deck_checks, words_of, read_checks, read_of, words_after, block_count, deck_of, words_wrong, write_checks, write_of, deck_after}

-- ---- what a right length is, of a deck and of the words to write

pub record Sized (l : ℕ) : Type 0 where
  pub some : l ≡ 0 → ⊥
  pub whole : l % 512 ≡ 0
  pub most : l ≤ 34304

pub sized : (l : ℕ) → length_wrong l ≡ false → Sized l
sized l h =
    let (none, rest) = neither (eqb l 0) _ h in
    let (whole, most) = neither (not (eqb (l % 512) 0)) (ltb 34304 l) rest in
    record { some = eqb-false l 0 none; whole = eqb-true (l % 512) 0 (not-false _ whole); most = ltb-false 34304 l most }

pub right_length : (l : ℕ) → Sized l → length_wrong l ≡ false
right_length l s = rw (ne_eqb l 0 s.some, eq-eqb (l % 512) 0 s.whole, le-ltb 34304 l s.most)

pub right_words : (n : ℕ) → 1 ≤ n → n ≤ 4096 → words_wrong n ≡ false
right_words n h m = rw (ne_eqb n 0 (λ e. omega arith), le-ltb 4096 n m)

pub few : (n : ℕ) → words_wrong n ≡ false → (1 ≤ n) × (n ≤ 4096)
few n h =
    let (none, most) = neither (eqb n 0) (ltb 4096 n) h in
    let ne = eqb-false n 0 none in
    (omega arith, ltb-false 4096 n most)

-- ---- a test of a list's length, then other checks of it, then 19

module _ (early : Refusal) (wrong : ℕ → Bool) (checks : List ℕ → List (Check Refusal)) (size : List ℕ → ℕ) where
  -- the checks of a list, for a room
  abbrev pub around : List ℕ → ℕ → List (Check Refusal)
  around l room = (early, wrong (length l)) ∷ (checks l ++ ((R.Room, room_wrong (size l) room) ∷ []))

  -- past the length, the checks' first refusal, else 19 or none
  pub past : (l : List ℕ) (room : ℕ) → wrong (length l) ≡ false
      → first (around l room) ≡ answer (first (checks l)) Some (cond (ltb room (size l)) (Some R.Room) None)
  past l room right = rw right (first_append (checks l) _)

  -- what an answer that is no refusal says of the checks, with the count m that it gives
  pub record Passed (l : List ℕ) (room m : ℕ) : Type 0 where
    pub all : first (around l room) ≡ None
    pub length_right : wrong (length l) ≡ false
    pub none : NoneHolds (checks l)
    pub fits : size l ≤ room
    pub count : size l ≡ m

  -- no test holds, and the count is m
  passed : (l : List ℕ) (room m : ℕ) → NoneHolds (around l room) × (size l ≡ m) → Passed l room m
  passed l room m (none, count) =
      let (before, last) = each_split _ (checks l) _ none.1 in
      record { all = none_first (around l room) none; length_right = none.0; none = before; fits = ltb-false room (size l) last.0; count = count }

-- how many words a deck has, and how many bytes the deck of some words
abbrev pub word_count : List ℕ → ℕ
word_count deck = length (words_of deck)

abbrev pub byte_count : List ℕ → ℕ
byte_count ws = 512 * block_count (length ws)

-- ---- `read`

-- past 15, the blocks' first refusal, else 19 or none
module _ (deck : List ℕ) (room : ℕ) (right : length_wrong (length deck) ≡ false) where
  read_past : first (read_checks deck room) ≡ answer (first (deck_checks deck)) Some (cond (ltb room (length (words_of deck))) (Some R.Room) None)
  read_past = past R.DeckLength length_wrong deck_checks word_count deck room right

  pub read_block : (r : Refusal) → first (deck_checks deck) ≡ Some r → first (read_checks deck room) ≡ Some r
  read_block r e = read_past ∙ rw e

  pub read_room : first (deck_checks deck) ≡ None → room < length (words_of deck) → first (read_checks deck room) ≡ Some R.Room
  read_room ok m = read_past ∙ rw (ok, lt-ltb room (length (words_of deck)) m)

  pub read_none : first (deck_checks deck) ≡ None → length (words_of deck) ≤ room → first (read_checks deck room) ≡ None
  read_none ok m = read_past ∙ rw (ok, le-ltb room (length (words_of deck)) m)

module _ (deck words : List ℕ) where
  pub refused : (r : Refusal) → first (read_checks deck (length words)) ≡ Some r → (Err r ≡ read_of deck (length words)) × (words ≡ words_after deck words)
  unfolding read_of words_after
  refused r e = rw e (refl, refl)

  pub accepted : first (read_checks deck (length words)) ≡ None → (Ok (length (words_of deck)) ≡ read_of deck (length words)) × (over (words_of deck) words ≡ words_after deck words)
  unfolding read_of words_after
  accepted e = rw e (refl, refl)

-- what an answer of n words says
abbrev pub Read : List ℕ → ℕ → ℕ → Type 0
Read = Passed R.DeckLength length_wrong deck_checks word_count

pub was_read : (deck : List ℕ) (room n : ℕ) → read_of deck room ≡ Ok n → Read deck room n
unfolding read_of
was_read deck room n e =
    passed R.DeckLength length_wrong deck_checks word_count deck room n
    (given_none result_tells (word_count deck) n (λ q. cc) (read_checks deck room) e)

-- the words stand at the front of the room
pub taken : (deck words : List ℕ) (n : ℕ) → Read deck (length words) n → take n (words_after deck words) ≡ words_of deck
taken deck words n r = ap (take n) (sym (accepted deck words r.all).1) ∙ take_at (words_of deck) _ n r.count

-- ---- `write`

module _ (ws deck : List ℕ) where
  pub write_refused : (r : Refusal) → first (write_checks ws (length deck)) ≡ Some r → (Err r ≡ write_of ws (length deck)) × (deck ≡ deck_after ws deck)
  unfolding write_of deck_after
  write_refused r e = rw e (refl, refl)

  pub write_accepted : first (write_checks ws (length deck)) ≡ None → (Ok (512 * block_count (length ws)) ≡ write_of ws (length deck)) × (over (deck_of ws) deck ≡ deck_after ws deck)
  unfolding write_of deck_after
  write_accepted e = rw e (refl, refl)

-- what an answer of n bytes says
abbrev pub Wrote : List ℕ → ℕ → ℕ → Type 0
Wrote = Passed R.WordCount words_wrong (in_turn word_checks 0) byte_count

pub wrote : (ws : List ℕ) (room n : ℕ) → write_of ws room ≡ Ok n → Wrote ws room n
unfolding write_of
wrote ws room n e =
    passed R.WordCount words_wrong (in_turn word_checks 0) byte_count ws room n
    (given_none result_tells (byte_count ws) n (λ q. cc) (write_checks ws room) e)
