-- An accepted deck: its blocks are the blocks of its words. Assumes nothing.
use Rattle.std.proofs.Common.{◌≡◌, ℕ, suc, ◌+◌, ◌-◌, ◌*◌, ◌^◌, ◌<◌, ◌≤◌, true, eqb, List, [], ◌∷◌, ◌++◌, map, length, get_or, take, drop, replicate, sym, refl, ap, ◌∙◌, ap₂, ⊎_elim, append-nil, mod-eq_of_lt, eq-zero-or-pos, arith, length-append, length-drop, take-append-drop, drop_of_length-le, length-take-le, take_all, take-suc, take-take, take_at, drop_at, ne_eqb, eqb-true}
use Rattle.digits.specs.Line.{join}
use Rattle.digits.specs.Table.{Each}
use Rattle.digits.proofs.Lines.{join_parts}
use Rattle.digits.proofs.Refusals.{NoneHolds}
use Rattle.digits.proofs.Table.{any, each_split}
use Rattle.digits.proofs.Truth.{both}
use Rattle.digits.specs.Lists.{joined, in_turn, all_zero}
use Rattle.deck.specs.Deck.{head_widths, count_in, words_in, unused_in, head_of, sealed, block_of, check_of, check_in, word_checks, block_checks}
use Rattle.deck.proofs.Through.{Block}
use Rattle.deck.proofs.Turns.{none_both}
use Rattle.deck.proofs.Blocks.{Good, good, some, full}
use Rattle.deck.proofs.Decks.{length_words}
use Rattle.deck.proofs.Written.{check_before, made}

-- ---- a block that is not refused is the block of its words

zeros_are : (l : List ℕ) → all_zero l ≡ true → l ≡ replicate (length l) 0
zeros_are [] e = refl
zeros_are (x ∷ l) e =
    let (first, rest) = both (eqb x 0) (all_zero l) e in
    rw (eqb-true x 0 first) (ap (λ (r : List ℕ). 0 ∷ r) (zeros_are l rest))

-- c words, and zeros up to group 62
padded : (c : ℕ) (gs : List ℕ) → length gs ≡ 63 → c ≤ 62 → all_zero (drop c (take 62 gs)) ≡ true → take 62 gs ≡ take c gs ++ replicate (62 - c) 0
padded c gs e h z =
    let n : length (take 62 gs) ≡ 62 = length-take-le 62 gs (omega arith) in
    let m : length (drop c (take 62 gs)) ≡ 62 - c = length-drop c (take 62 gs) ∙ rw n in
    let u : drop c (take 62 gs) ≡ replicate (62 - c) 0 = zeros_are (drop c (take 62 gs)) z ∙ ap (λ (j : ℕ). replicate {A = ℕ} j 0) m in
    sym (take-append-drop c (take 62 gs)) ∙ rw (take-take c 62 gs h, u)

-- groups 0 to 62 are the head, the words and zeros
front_is : (gs : List ℕ) → length gs ≡ 64 → count_in gs ≤ 62 → all_zero (unused_in gs) ≡ true → take 63 gs ≡ get_or gs 0 0 ∷ (words_in gs ++ replicate (62 - count_in gs) 0)
front_is [] e h z = absurd (omega arith)
front_is (g ∷ gs) e h z =
    let k : 1 + count_in (g ∷ gs) ≡ suc (count_in (g ∷ gs)) = omega arith in
    ap (λ (r : List ℕ). g ∷ r) {x = take 62 gs} (padded (count_in (g ∷ gs)) gs (omega arith) h (rw k at z))

block_again : (n b : ℕ) (gs : List ℕ) → Block gs → Good n b gs → block_of b (words_in gs) ≡ gs
unfolding block_of
block_again n b gs (e, bits) g =
    let s = g.shape in
    let h = (some (eqb (b + 1) n) (count_in gs) s.count).1 in
    let l = length_words gs e h in
    let small : get_or gs 0 0 < 2 ^ 64 = any _ gs 0 bits (omega arith) 0 in
    let head : head_of b (length (words_in gs)) ≡ get_or gs 0 0 =
    ap (head_of b) l ∙ ap₂ (λ (m r : ℕ). join head_widths (m ∷ count_in gs ∷ r ∷ [])) (sym g.number) (sym s.reserved) ∙ join_parts head_widths (get_or gs 0 0) ∙ mod-eq_of_lt small in
    let f : head_of b (length (words_in gs)) ∷ (words_in gs ++ replicate (62 - length (words_in gs)) 0) ≡ take 63 gs = rw (head, l) (sym (front_is gs e h s.unused)) in
    let n : length (take 63 gs) ≡ 63 = length-take-le 63 gs (omega arith) in
    let t : take 63 gs ++ (check_in gs ∷ []) ≡ gs = sym (take-suc gs 63 0 (omega arith)) ∙ take_all 64 gs (omega arith) in
    let c : check_of (take 63 gs) ≡ check_in gs = sym (check_before (take 63 gs) (check_in gs ∷ []) n) ∙ ap check_of t ∙ g.check in
    ap sealed f ∙ rw c t

-- ---- all the blocks

-- the words of one block and of those after it, apart again
cut : (a b : List ℕ) → length a ≤ 62 → (0 < length b → length a ≡ 62) → (take 62 (a ++ b) ≡ a) × (drop 62 (a ++ b) ≡ b)
cut a [] h f = rw (append-nil a) (take_all 62 a h, drop_of_length-le a h)
cut a (x ∷ b) h f = (take_at a (x ∷ b) 62 (f (omega arith)), drop_at a (x ∷ b) 62 (f (omega arith)))

abbrev words : List (List ℕ) → List ℕ
words bs = joined (map words_in bs)

-- what the blocks from block b on are
pub record Again (b : ℕ) (bs : List (List ℕ)) : Type 0 where
  pub same : made (length bs) b (words bs) ≡ bs
  pub least : length bs * 62 < length (words bs) + 62
  pub most : length (words bs) ≤ length bs * 62
  pub total : length (words bs) ≤ 4096 - 62 * b
  pub none : NoneHolds (in_turn word_checks (62 * b) (words bs))

no_words : (bs : List (List ℕ)) → length bs ≡ 0 → words bs ≡ []
no_words [] e = refl
no_words (gs ∷ bs) e = absurd (omega arith)

pub again : (b all : ℕ) (bs : List (List ℕ)) → Each Block bs → b + length bs ≡ all → all ≤ 67 → NoneHolds (in_turn (block_checks all) b bs) → Again b bs
again b all [] p e m h = record { same = refl; least = omega arith; most = omega arith; total = omega arith; none = tt }
again b all (gs ∷ bs) p e m h =
    let (here, later) = each_split _ (block_checks all b gs) _ h in
    turn (again (suc b) all bs p.1 (omega arith) m later) (good all b gs here)
  where
    turn : Again (suc b) bs → Good all b gs → Again b (gs ∷ bs)
    turn i g =
        let ws = words bs in
        let n = length bs in
        let k = some (eqb (b + 1) all) (count_in gs) g.shape.count in
        let w = length_words gs p.0.0 k.1 in
        let t = g.shape.total in
        let a = length-append (words_in gs) ws in
        let fill : 0 < n → count_in gs ≡ 62 = λ q. full (count_in gs) (rw (ne_eqb (b + 1) all (λ z. omega arith)) at g.shape.count) in
        let hi = i.most in
        let c = cut (words_in gs) ws (omega arith) (λ q. w ∙ fill (omega arith)) in
        let last : n ≡ 0 → NoneHolds (in_turn word_checks (62 * b + length (words_in gs)) ws) = λ q. rw (no_words bs q) tt in
        let next : 0 < n → NoneHolds (in_turn word_checks (62 * b + length (words_in gs)) ws) = λ q. let f = fill q in let z : 62 * b + length (words_in gs) ≡ 62 * suc b = omega arith in rw z i.none in
        record {
          same = rw (c.0, c.1, block_again all b gs p.0 g, i.same);
          least = ⊎_elim (λ q. omega arith) (λ q. let f = fill q in let lo = i.least in omega arith) (eq-zero-or-pos n);
          most = omega arith;
          total = ⊎_elim (λ q. omega arith) (λ q. let f = fill q in let to = i.total in omega arith) (eq-zero-or-pos n);
          none = none_both word_checks (words_in gs) ws (62 * b) g.words (⊎_elim last next (eq-zero-or-pos n));
        }
