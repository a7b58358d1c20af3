-- A block and a deck as they are made. Assumes nothing.
use Rattle.std.proofs.Common.{◌≡◌, ℕ, zero, suc, ◌+◌, ◌-◌, ◌*◌, ◌^◌, ◌<◌, ◌≤◌, min, List, [], ◌++◌, map, length, take, drop, replicate, sym, refl, ap, ◌∙◌, mod-lt, zero-add, arith, length-append, take-append-drop, length-take, take_all, take_at, pow_pos}
use lib.Seq.{take-append_seam, drop-append_seam}
use lib.ListN.{length-replicate}
use Rattle.digits.specs.Line.{total}
use Rattle.digits.specs.Lists.{pieces, joined, placed}
use Rattle.deck.specs.Deck.{bytes_of, check_of, block_of, block_count, blocks_for, deck_of}
use Rattle.digits.proofs.Lists.{length_pieces, pieces_at, placed_step}
use Rattle.deck.proofs.Groups.{length_bytes}

pub drop_zeros : (k n : ℕ) → drop k (replicate {A = ℕ} n 0) ≡ replicate (n - k) 0
drop_zeros zero n = let e : n - 0 ≡ n = omega arith in rw e
drop_zeros (suc k) zero = let e : 0 - suc k ≡ 0 = omega arith in rw e
drop_zeros (suc k) (suc n) = let e : suc n - suc k ≡ n - k = omega arith in rw e (drop_zeros k n)

pub length_padded : (ws : List ℕ) → length ws ≤ 62 → length (ws ++ replicate (62 - length ws) 0) ≡ 62
length_padded ws h = length-append ws _ ∙ rw (length-replicate {A = ℕ} (62 - length ws) 0) (omega arith)

-- the check is of groups 0 to 62, whatever stands after them
pub check_before : (gs rest : List ℕ) → length gs ≡ 63 → check_of (gs ++ rest) ≡ check_of gs
unfolding check_of
check_before gs rest e = rw (take_at gs rest 63 e, take_all 63 gs (omega arith))

pub check_lt : (gs : List ℕ) → check_of gs < 2 ^ 64
unfolding check_of
check_lt gs = mod-lt (total (take 63 gs)) (pow_pos 64)

pub length_block : (b : ℕ) (ws : List ℕ) → length ws ≤ 62 → length (block_of b ws) ≡ 64
unfolding block_of
length_block b ws h = ap suc (length-append (ws ++ replicate (62 - length ws) 0) _ ∙ rw (length_padded ws h))

pub length_block_bytes : (b : ℕ) (ws : List ℕ) → length ws ≤ 62 → length (bytes_of (block_of b ws)) ≡ 512
length_block_bytes b ws h = length_bytes (block_of b ws) ∙ rw (length_block b ws h)

-- ---- the blocks of the words from block b on, n of them

abbrev pub made : ℕ → ℕ → List ℕ → List (List ℕ)
made n b ws = placed block_of b (pieces 62 n ws)

pub length_made : (n b : ℕ) (ws : List ℕ) → length (made n b ws) ≡ n
length_made zero b ws = refl
length_made (suc n) b ws = ap suc (length_made n (suc b) (drop 62 ws))

length_made_bytes : (n b : ℕ) (ws : List ℕ) → length (joined (map bytes_of (made n b ws))) ≡ 512 * n
length_made_bytes zero b ws = omega arith
length_made_bytes (suc n) b ws =
    length-append (bytes_of (block_of b (take 62 ws))) _
    ∙ rw (length_block_bytes b (take 62 ws) (rw length-take (omega arith)), length_made_bytes n (suc b) (drop 62 ws)) (omega arith)

pub length_deck : (ws : List ℕ) → length (deck_of ws) ≡ 512 * block_count (length ws)
unfolding deck_of blocks_for
length_deck ws = length_made_bytes (block_count (length ws)) 0 ws

-- ---- block b of the words, and the bytes of the blocks from it on, of n

abbrev pub words_at : List ℕ → ℕ → List ℕ
words_at ws b = take 62 (drop (b * 62) ws)

pub length_at : (ws : List ℕ) (b : ℕ) → length (words_at ws b) ≤ 62
length_at ws b = rw length-take (omega arith)

-- as many as there are, up to k
short : (m k : ℕ) (l : List ℕ) → m ≡ min k (length l) → take m l ≡ take k l
short m k l e = rw (take-append-drop k l) at (take_at (take k l) (drop k l) m (length-take k l ∙ sym e))

abbrev pub rest_of : List ℕ → ℕ → ℕ → List ℕ
rest_of ws n b = joined (map bytes_of (placed block_of (0 + b) (drop b (pieces 62 n ws))))

pub rest_step : (ws : List ℕ) (n b : ℕ) → b < n → rest_of ws n b ≡ bytes_of (block_of b (words_at ws b)) ++ rest_of ws n (b + 1)
rest_step ws n b h =
    rw (placed_step block_of (pieces 62 n ws) [] 0 b (rw length_pieces h), pieces_at 62 n ws b h, zero-add b)

-- a part of at most k in front of the rest, as `chunks` cuts it
pub cut : (k : ℕ) (l x r : List ℕ) → l ≡ x ++ r → length x ≡ min k (length l) → (x ≡ take k l) × (r ≡ drop k l)
cut k l x r h e =
    let past : drop (length x) l ≡ drop k l = rw (take-append-drop k l, length-take k l ∙ sym e) at (drop-append_seam (take k l) (drop k l)) in
    (sym (take-append_seam x r) ∙ ap (take (length x)) (sym h) ∙ short (length x) k l e, sym (drop-append_seam x r) ∙ ap (drop (length x)) (sym h) ∙ past)
