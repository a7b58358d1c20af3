-- Exactly when each number is given, that a refusal writes nothing, numbers to check by, and that no second answer fits. Assumes nothing.
use Rattle.std.proofs.Common.{◌≡◌, ℕ, ◌*◌, ◌↔◌, List, [], ◌∷◌, length, get_or, refl, ap, ◌∙◌, arith, length-drop, length-take, Result, Err}
use Rattle.digits.specs.declared.refusal.Refusal.{Refusal}
use Rattle.digits.specs.Refusal.{first, Given}
use Rattle.digits.proofs.Refusals.{exactly, same_refusal, result_tells}
use Rattle.digits.proofs.Sole.{sole}
use Rattle.digits.specs.Lent.{over}
use Rattle.digits.specs.Lists.{pieces}
use Rattle.deck.specs.Deck.{count_in, check_of, block_of, blocks_for, read_checks, read_of, words_after, words_of, block_count, deck_of, write_checks, write_of, deck_after}
use Rattle.digits.proofs.Lists.{length_pieces, pieces_at, placed_at}
use Rattle.deck.proofs.Written.{length_made, words_at}
use Rattle.deck.proofs.Back.{count_of}
use Rattle.deck.proofs.read.Reads as read
use Rattle.deck.proofs.write.Reads as write

-- 15, then block by block 16, 17, 18 and 3 to 9, then 19, of `read`
pub read_exactly : (deck : List ℕ) (room : ℕ) (r : Refusal) → (read_of deck room ≡ Err r) ↔ Given r (read_checks deck room)
unfolding read_of
read_exactly deck room = exactly result_tells (length (words_of deck)) (read_checks deck room)

-- 21, then 3 to 9, then 19, of `write`
pub write_exactly : (ws : List ℕ) (room : ℕ) (r : Refusal) → (write_of ws room ≡ Err r) ↔ Given r (write_checks ws room)
unfolding write_of
write_exactly ws room = exactly result_tells (512 * block_count (length ws)) (write_checks ws room)

-- "refused, it writes nothing"
pub read_nothing : (deck words : List ℕ) (r : Refusal) → read_of deck (length words) ≡ Err r → words_after deck words ≡ words
unfolding read_of words_after
read_nothing deck words =
    same_refusal result_tells (length (words_of deck)) (λ r. words) (over (words_of deck) words) (first (read_checks deck (length words)))

pub write_nothing : (ws deck : List ℕ) (r : Refusal) → write_of ws (length deck) ≡ Err r → deck_after ws deck ≡ deck
unfolding write_of deck_after
write_nothing ws deck =
    same_refusal result_tells (512 * block_count (length ws)) (λ r. deck) (over (deck_of ws) deck) (first (write_checks ws (length deck)))

-- "4,096 words make 67 blocks, the last with 4."
pub full_store : (ws : List ℕ) → length ws ≡ 4096 → (length (blocks_for ws) ≡ 67) × (count_in (get_or (blocks_for ws) 66 []) ≡ 4)
unfolding blocks_for
full_store ws e =
    let last = words_at ws 66 in
    let n : length last ≡ 4 = simp (length-take, length-drop) (omega arith) in
    rw e (
      length_made 67 0 ws,
      ap count_in (placed_at block_of 0 (pieces 62 67 ws) [] [] 66 (rw length_pieces (omega arith)) ∙ ap (block_of 66) (pieces_at 62 67 ws 66 (omega arith)))
          ∙ count_of 66 last (omega arith) (omega arith) ∙ n,
    )

-- the block of word P: its header and its check
pub block_of_P : (get_or (block_of 0 (0x00018093988E6801 ∷ [])) 0 0 ≡ 0x0000000100000000) × (get_or (block_of 0 (0x00018093988E6801 ∷ [])) 63 0 ≡ 0x00018094988E6801)
unfolding block_of check_of
block_of_P = (refl, refl)

-- ---- no second answer fits: two results that meet one contract at the same arguments are the same, with what stands in the room lent

pub read_sole : (κs : _) (args : _) (r s : Result ℕ Refusal) (x y : _) → read.Post κs args r x → read.Post κs args s y → (r ≡ s) × (x.1.0.now ≡ y.1.0.now)
read_sole κs args r s x y p q = (sole p.0 q.0, sole p.1 q.1)

pub write_sole : (κs : _) (args : _) (r s : Result ℕ Refusal) (x y : _) → write.Post κs args r x → write.Post κs args s y → (r ≡ s) × (x.1.0.now ≡ y.1.0.now)
write_sole κs args r s x y p q = (sole p.0 q.0, sole p.1 q.1)
