-- Lines, and what is printed of a deck. Assumes nothing.
use Prim.Native.Nat.{ℕ, suc, ◌+◌, ◌-◌, ◌*◌, ◌<◌, ◌≤◌}
use mathlib.Core.Path.{◌≡◌, refl, sym, ◌∙◌}
use mathlib.Core.List.{List, [], ◌∷◌, ◌++◌}
use mathlib.Core.Bool.{Bool, true, false, cond}
use native.Mathlib.Nat.{zero-add}
use native.Mathlib.Omega.{arith}
use lib.ListN.{length, get_or, take, drop, length-append}
use Rattle.std.specs.Prelude.{None, Ok, Err}
use Rattle.digits.specs.declared.refusal.Refusal.{Refusal}
use Rattle.digits.specs.Refusal.{refusal_number, first}
use Rattle.digits.proofs.Refusals.{result_tells, same_refusal}
use Rattle.digits.specs.Lists.{in_turn}
use Rattle.deck.specs.Deck.{read_checks, read_of, words_after, words_of}
use Rattle.digits.proofs.Lists.{placed_step}
use Rattle.deck.proofs.Answers.{was_read, taken}
use Rattle.listing.specs.Listing.{text_line, lines_of, refusal_of, text_of}

-- ---- lines

pub length_line : (a w : ℕ) → length (text_line a w) ≡ 19
unfolding text_line
length_line a w = refl

length_from : (a : ℕ) (ws : List ℕ) → length (in_turn text_line a ws) ≡ 19 * length ws
length_from a [] = refl
length_from a (w ∷ ws) = length-append (text_line a w) _ ∙ rw (length_line a w, length_from (suc a) ws) (omega arith)

pub length_lines : (ws : List ℕ) → length (lines_of ws) ≡ 19 * length ws
unfolding lines_of
length_lines ws = length_from 0 ws

-- the lines from word i on
abbrev pub rest_of : List ℕ → ℕ → List ℕ
rest_of ws i = in_turn text_line (0 + i) (drop i ws)

pub rest_step : (ws : List ℕ) (i : ℕ) → i < length ws → rest_of ws i ≡ text_line i (get_or ws i 0) ++ rest_of ws (i + 1)
rest_step ws i h = rw (placed_step text_line ws 0 0 i h, zero-add i)

-- ---- three digits and a line feed, from the first digit that is printed

pub tail_is : (one two : Bool) (h t u : ℕ) →
    let z : ℕ = cond one 2 (cond two 1 0) in
    take (4 - z) (drop z (h ∷ t ∷ u ∷ 10 ∷ [])) ≡ drop z (h ∷ t ∷ u ∷ []) ++ (10 ∷ [])
tail_is true two h t u = refl
tail_is false true h t u = refl
tail_is false false h t u = refl

-- ---- what is printed of a deck

pub text_of_words : (deck words : List ℕ) (n : ℕ) → length words ≡ 4096 → read_of deck (length words) ≡ Ok n → (n ≤ 4096) × (lines_of (take n (words_after deck words)) ≡ text_of deck)
unfolding text_of
text_of_words deck words n l e =
    let r = was_read deck (length words) n e in
    let fits = r.fits in
    let count = r.count in
    let c : first (read_checks deck 4096) ≡ None = rw l at r.all in
    (omega arith, rw (taken deck words n r, c))

pub text_of_refusal : (deck : List ℕ) (r : Refusal) → read_of deck 4096 ≡ Err r → refusal_of (refusal_number r) ≡ text_of deck
unfolding read_of text_of
text_of_refusal deck r e =
    sym (same_refusal result_tells (length (words_of deck)) (λ q. refusal_of (refusal_number q)) (lines_of (words_of deck)) (first (read_checks deck 4096)) r e)
