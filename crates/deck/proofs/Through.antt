-- There and back in pieces of one length: groups through bytes, and blocks through groups. Assumes nothing.
use Rattle.std.proofs.Common.{◌≡◌, ℕ, zero, suc, ◌*◌, ◌^◌, ◌<◌, List, [], ◌∷◌, map, length, take, drop, refl, ◌∙◌, suc-mul, arith, length-drop, take-append-drop, length-take-le, take_at, drop_at}
use Rattle.digits.specs.Lists.{pieces, joined}
use Rattle.digits.specs.Number.{digits_of, number_of}
use Rattle.deck.specs.Deck.{groups_of, bytes_of}
use Rattle.digits.specs.Table.{Each}
use Rattle.digits.proofs.Table.{Below, each_into, each_take, each_drop}
use Rattle.digits.proofs.Number.{length_digits, number_digits, digits_number, number_lt}
use Rattle.deck.proofs.Groups.{length_groups, length_bytes}

-- what holds of every piece
each_piece : {A : Type 0} (P : A → Type 0) (f : List ℕ → A) (k m : ℕ) → ((p : List ℕ) → length p ≡ k → Below m p → P (f p))
    → (n : ℕ) (l : List ℕ) → length l ≡ n * k → Below m l → Each P (map f (pieces k n l))
each_piece P f k m h zero l e p = tt
each_piece P f k m h (suc n) l e p =
    let s = suc-mul n k in (
      h (take k l) (length-take-le k l (omega arith)) (each_take _ k l p),
      each_piece P f k m h n (drop k l) (length-drop k l ∙ omega arith) (each_drop _ k l p),
    )

module _ {A : Type 0} (spell : A → List ℕ) (read : List ℕ → A) (k : ℕ) where
  -- an element that is spelled in k and read again is the same
  abbrev Kept : A → Type 0
  Kept x = (length (spell x) ≡ k) × (read (spell x) ≡ x)

  there : (l : List A) → Each Kept l → map read (pieces k (length l) (joined (map spell l))) ≡ l
  there [] p = refl
  there (x ∷ l) p =
      let rest = joined (map spell l) in
      rw (take_at (spell x) rest k p.0.0, drop_at (spell x) rest k p.0.0, p.0.1, there l p.1)

  back : (m : ℕ) → ((p : List ℕ) → length p ≡ k → Below m p → spell (read p) ≡ p)
      → (n : ℕ) (l : List ℕ) → length l ≡ n * k → Below m l → joined (map spell (map read (pieces k n l))) ≡ l
  back m same zero [] e p = refl
  back m same zero (x ∷ l) e p = absurd (let z : 0 * k ≡ 0 = omega arith in omega arith)
  back m same (suc n) l e p =
      let s = suc-mul n k in
      rw (
        same (take k l) (length-take-le k l (omega arith)) (each_take _ k l p),
        back m same n (drop k l) (length-drop k l ∙ omega arith) (each_drop _ k l p),
      ) (take-append-drop k l)

-- ---- a block's groups through its bytes

groups_bytes : (gs : List ℕ) → length gs ≡ 64 → Below (2 ^ 64) gs → groups_of (bytes_of gs) ≡ gs
unfolding groups_of bytes_of
groups_bytes gs e p = rw e at (there (digits_of 8 8) (number_of 8) 8 gs (each_into _ _ (λ g h. (length_digits 8 8 g, number_digits 8 8 g h)) gs p))

bytes_groups : (block : List ℕ) → length block ≡ 512 → Below 256 block → bytes_of (groups_of block) ≡ block
unfolding groups_of bytes_of
bytes_groups block e p = back (digits_of 8 8) (number_of 8) 8 256 (digits_number 8 8) 64 block e p

-- ---- a deck's blocks through its bytes

-- 64 groups, each of 64 bits
abbrev pub Block : List ℕ → Type 0
Block gs = (length gs ≡ 64) × Below (2 ^ 64) gs

pub blocks_bytes_lem : (bs : List (List ℕ)) → Each Block bs → map groups_of (pieces 512 (length bs) (joined (map bytes_of bs))) ≡ bs
blocks_bytes_lem bs p = there bytes_of groups_of 512 bs (each_into _ _ (λ gs (l, h). (length_bytes gs ∙ rw l, groups_bytes gs l h)) bs p)

groups_block : (block : List ℕ) → length block ≡ 512 → Below 256 block → Block (groups_of block)
unfolding groups_of
groups_block block e p = (length_groups block, each_piece (λ (g : ℕ). g < 2 ^ 64) (number_of 8) 8 256 (number_lt 8 8) 64 block e p)

pub blocks_are : (n : ℕ) (deck : List ℕ) → length deck ≡ n * 512 → Below 256 deck → Each Block (map groups_of (pieces 512 n deck))
blocks_are = each_piece Block groups_of 512 256 groups_block

pub bytes_blocks : (n : ℕ) (deck : List ℕ) → length deck ≡ n * 512 → Below 256 deck → joined (map bytes_of (map groups_of (pieces 512 n deck))) ≡ deck
bytes_blocks = back bytes_of groups_of 512 256 bytes_groups
