-- Reading what was written: the blocks of some words, and what is found in them. Assumes nothing.
use Rattle.std.proofs.Common.{◌≡◌, ℕ, zero, suc, ◌+◌, ◌-◌, ◌*◌, ◌^◌, ◌<◌, ◌≤◌, Bool, true, false, eqb, List, [], ◌∷◌, ◌++◌, map, length, take, drop, replicate, sym, refl, ap, ◌∙◌, append_assoc, arith, length-drop, take-append-drop, length-take, take_at, drop_at, le-ltb, eq-eqb, ne_eqb, eqb-true}
use borrow.Author.Tests.{eqb-false}
use lib.Seq.{get_or_at}
use Rattle.digits.specs.Table.{Each}
use Rattle.digits.proofs.Refusals.{NoneHolds}
use Rattle.digits.proofs.Table.{Below, each_append, each_same, each_take, each_drop}
use Rattle.digits.specs.Lists.{joined, in_turn, all_zero}
use Rattle.deck.specs.Deck.{number_in, count_in, reserved_in, words_in, unused_in, check_of, check_in, count_wrong, head_of, word_checks, block_checks, block_of}
use Rattle.deck.proofs.Through.{Block}
use Rattle.deck.proofs.Turns.{none_take, none_drop}
use Rattle.deck.proofs.Blocks.{Good, none}
use Rattle.deck.proofs.Written.{made, length_padded, length_block, check_before, check_lt}

zeros : (n : ℕ) → all_zero (replicate n 0) ≡ true
zeros zero = refl
zeros (suc n) = zeros n

-- ---- a block that was made

module _ (b : ℕ) (ws : List ℕ) (few : b < 67) (fits : length ws ≤ 62) where
  -- groups 0 to 62
  front : List ℕ
  front = head_of b (length ws) ∷ (ws ++ replicate (62 - length ws) 0)

  length_front : length front ≡ 63
  unfolding front
  length_front = ap suc (length_padded ws fits)

  front_first : block_of b ws ≡ front ++ (check_of front ∷ [])
  unfolding block_of front
  front_first = refl

  number_of : number_in (block_of b ws) ≡ b
  unfolding block_of
  number_of = omega arith

  pub count_of : count_in (block_of b ws) ≡ length ws
  unfolding block_of
  count_of = omega arith

  reserved_of : reserved_in (block_of b ws) ≡ 0
  unfolding block_of
  reserved_of = omega arith

  words_of : words_in (block_of b ws) ≡ ws
  unfolding block_of
  words_of =
      ap (λ (k : ℕ). take k (drop 1 (block_of b ws))) count_of
      ∙ ap (take (length ws)) (append_assoc ws _ _) ∙ take_at ws _ (length ws) refl

  unused_of : all_zero (unused_in (block_of b ws)) ≡ true
  unfolding front
  unused_of =
      let e : 1 + length ws ≡ suc (length ws) = omega arith in
      ap (λ (k : ℕ). all_zero (drop (1 + k) (take 63 (block_of b ws)))) count_of
      ∙ rw (front_first, take_at front (check_of front ∷ []) 63 length_front, e, drop_at ws (replicate (62 - length ws) 0) (length ws) refl)
      (zeros (62 - length ws))

  check_of_lem : check_of (block_of b ws) ≡ check_in (block_of b ws)
  check_of_lem =
      rw front_first (check_before front (check_of front ∷ []) length_front ∙ sym (get_or_at front (check_of front) [] 0 63 length_front))

  block : Below (2 ^ 64) ws → Block (block_of b ws)
  unfolding block_of
  block p = (
    length_block b ws fits,
    (
      omega arith,
      each_append _ (ws ++ replicate (62 - length ws) 0) _ (each_append _ ws _ p (each_same _ (62 - length ws) 0 (omega arith))) (check_lt _, tt),
    ),
  )

-- ---- all the blocks that were made

-- the count is right where it is 62 before the last block, and some up to 62 there
right_count : (last : Bool) (count : ℕ) → (last ≡ true → (1 ≤ count) × (count ≤ 62)) → (last ≡ false → count ≡ 62) → count_wrong last count ≡ false
right_count true count p q = let r = p refl in rw (ne_eqb count 0 (λ e. omega arith), le-ltb 62 count r.1)
right_count false count p q = rw (eq-eqb count 62 (q refl))

-- what n blocks from block b on hold, of `all`
pub record Holds (n b all : ℕ) (ws : List ℕ) : Type 0 where
  pub words : joined (map words_in (made n b ws)) ≡ ws
  pub none : NoneHolds (in_turn (block_checks all) b (made n b ws))
  pub blocks : Each Block (made n b ws)

-- n blocks are as many as the words need
pub record Enough (n b all : ℕ) (ws : List ℕ) : Type 0 where
  pub places : b + n ≡ all
  pub few : all ≤ 67
  pub most : length ws ≤ n * 62
  pub least : n * 62 < length ws + 62
  pub total : length ws ≤ 4096 - 62 * b

first_block : (n b all : ℕ) (ws : List ℕ) → Enough (suc n) b all ws → NoneHolds (in_turn word_checks (62 * b) ws) → Good all b (block_of b (take 62 ws))
first_block n b all ws e w =
    let few : b < 67 = omega arith in
    let len = length-take 62 ws in
    let fits : length (take 62 ws) ≤ 62 = omega arith in
    let k = count_of b (take 62 ws) few fits in
    let last : b + 1 ≡ all → (1 ≤ count_in (block_of b (take 62 ws))) × (count_in (block_of b (take 62 ws)) ≤ 62) = λ i. (omega arith, omega arith) in
    let full : (b + 1 ≡ all → ⊥) → count_in (block_of b (take 62 ws)) ≡ 62 = λ i. k ∙ len ∙ omega (arith, i) in
    record {
      number = number_of b (take 62 ws) few fits;
      shape = record {
        count = right_count (eqb (b + 1) all) _ (λ t. last (eqb-true (b + 1) all t)) (λ t. full (eqb-false (b + 1) all t));
        total = omega arith;
        reserved = reserved_of b (take 62 ws) few fits;
        unused = unused_of b (take 62 ws) few fits;
      };
      check = check_of_lem b (take 62 ws) few fits;
      words = rw (words_of b (take 62 ws) few fits) (none_take word_checks ws (62 * b) 62 w);
    }

pub holds : (n b all : ℕ) (ws : List ℕ) → Enough n b all ws → NoneHolds (in_turn word_checks (62 * b) ws) → Below (2 ^ 64) ws → Holds n b all ws
holds zero b all [] e w p = record { words = refl; none = tt; blocks = tt }
holds zero b all (x ∷ ws) e w p = absurd (omega arith)
holds (suc n) b all ws e w p =
    let few : b < 67 = omega arith in
    let fits : length (take 62 ws) ≤ 62 = rw length-take (omega arith) in
    let d = length-drop 62 ws in
    let next : Enough n (suc b) all (drop 62 ws) = record { places = omega arith; few = e.few; most = omega arith; least = omega arith; total = omega arith } in
    let a : 62 * b + 62 ≡ 62 * suc b = omega arith in
    let rest : Holds n (suc b) all (drop 62 ws) = holds n (suc b) all (drop 62 ws) next (rw a at (none_drop word_checks ws (62 * b) 62 w)) (each_drop _ 62 ws p) in
    record {
      words = rw (words_of b (take 62 ws) few fits, rest.words) (take-append-drop 62 ws);
      none = each_append _ (block_checks all b (block_of b (take 62 ws))) (in_turn (block_checks all) (suc b) (made n (suc b) (drop 62 ws))) (none all b (block_of b (take 62 ws)) (first_block n b all ws e w)) rest.none;
      blocks = (block b (take 62 ws) few fits (each_take _ 62 ws p), rest.blocks);
    }
