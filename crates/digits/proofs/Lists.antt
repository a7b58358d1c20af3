-- The pieces of a list, and what is made of each element or piece. Assumes nothing.
use Prim.Native.Nat.{ℕ, zero, suc, ◌+◌, ◌*◌, ◌<◌}
use mathlib.Core.Path.{◌≡◌, refl, sym, ap, subst, ◌∙◌}
use mathlib.Core.List.{List, [], ◌∷◌, ◌++◌, map}
use native.Mathlib.Nat.{add-suc, suc-add, add-zero, suc-mul}
use native.Mathlib.Numerals.{add-one}
use native.Mathlib.Omega.{arith}
use lib.ListN.{length, get_or, take, drop, length-map}
use lib.Seq.{drop-cons, drop-drop}
use Rattle.digits.specs.Lists.{pieces, joined, placed}

module _ {A : Type 0} where
  pub length_pieces : (k n : ℕ) (l : List A) → length (pieces k n l) ≡ n
  length_pieces k zero l = refl
  length_pieces k (suc n) l = ap suc (length_pieces k n (drop k l))

  pub pieces_at : (k n : ℕ) (l : List A) (i : ℕ) → i < n → get_or (pieces k n l) i [] ≡ take k (drop (i * k) l)
  pieces_at k zero l i h = absurd (omega arith)
  pieces_at k (suc n) l zero h = let z : 0 * k ≡ 0 = omega arith in rw z
  pieces_at k (suc n) l (suc i) h =
      let z : suc i * k ≡ k + i * k = rw suc-mul (omega arith) in
      pieces_at k n (drop k l) i (omega arith) ∙ rw (drop-drop (i * k) k l, z)

pub map_at : {A B : Type 0} (f : A → B) (l : List A) (i : ℕ) (d : A) (e : B) → i < length l → get_or (map f l) i e ≡ f (get_or l i d)
map_at f [] i d e h = absurd (omega arith)
map_at f (x ∷ l) zero d e h = refl
map_at f (x ∷ l) (suc i) d e h = map_at f l i d e (omega arith)

-- what is made of each piece
module _ {B : Type 0} (f : List ℕ → B) (k n : ℕ) (l : List ℕ) where
  pub length_each : length (map f (pieces k n l)) ≡ n
  length_each = length-map (pieces k n l) f ∙ length_pieces k n l

  pub each_at : (e : B) (i : ℕ) → i < n → get_or (map f (pieces k n l)) i e ≡ f (take k (drop (i * k) l))
  each_at e i h = map_at f (pieces k n l) i [] e (subst (λ (m : ℕ). i < m) (sym (length_pieces k n l)) h) ∙ ap f (pieces_at k n l i h)

-- what is made of each element at its place
module _ {A B : Type 0} (f : ℕ → A → B) where
  pub placed_at : (a : ℕ) (l : List A) (d : A) (e : B) (i : ℕ) → i < length l → get_or (placed f a l) i e ≡ f (a + i) (get_or l i d)
  placed_at a [] d e i h = absurd (omega arith)
  placed_at a (x ∷ l) d e zero h = rw (add-zero a)
  placed_at a (x ∷ l) d e (suc i) h = rw (add-suc a i, ← suc-add a i) (placed_at (suc a) l d e i (omega arith))

  pub placed_step : (l : List A) (d : A) (a i : ℕ) → i < length l → placed f (a + i) (drop i l) ≡ f (a + i) (get_or l i d) ∷ placed f (a + (i + 1)) (drop (i + 1) l)
  placed_step l d a i h = rw (drop-cons l i d h, add-one i, add-suc)

-- what is left to join
module _ {A : Type 0} (f : A → List ℕ) where
  pub joined_step : (l : List A) (d : A) (i : ℕ) → i < length l → joined (map f (drop i l)) ≡ f (get_or l i d) ++ joined (map f (drop (i + 1) l))
  joined_step l d i h = rw (drop-cons l i d h, add-one)
