-- A table's rule at each of its entries, from one test that antt computes over the whole table; and what holds of each row. Assumes nothing.
use mathlib.Core.Path.{◌≡◌, refl, ◌∙◌, subst, sym}
use mathlib.Core.Bool.{Bool, true, false, not}
use mathlib.Core.List.{List, [], ◌∷◌, ◌++◌}
use Prim.Native.Nat.{ℕ, zero, suc, ◌+◌, ◌<◌}
use native.Mathlib.Nat.{add-zero, zero-add, add-suc, suc-add, le_of_suc-le-suc, not-suc-le-zero}
use lib.Dec.{T}
use lib.ListN.{length, get_or, take, drop, replicate, length-replicate}
use mir.Facts.{and_yes}
use Rattle.digits.specs.Table.{every, Each}

from : (rule : ℕ → ℕ → Bool) (xs : List ℕ) (i : ℕ) → T (every rule i xs) → (k : ℕ) → k < length xs → T (rule (i + k) (get_or xs k 0))
from rule [] i t k h = absurd (not-suc-le-zero h)
from rule (x ∷ xs) i t zero h = subst (λ (m : ℕ). T (rule m x)) (sym (add-zero i)) (and_yes (rule i x) (every rule (suc i) xs) t).0
from rule (x ∷ xs) i t (suc k) h =
    subst (λ (m : ℕ). T (rule m (get_or xs k 0))) (suc-add i k ∙ sym (add-suc i k))
    (from rule xs (suc i) (and_yes (rule i x) (every rule (suc i) xs) t).1 k (le_of_suc-le-suc h))

-- the rule at the index k
pub at : (rule : ℕ → ℕ → Bool) (xs : List ℕ) → T (every rule 0 xs) → (k : ℕ) → k < length xs → T (rule k (get_or xs k 0))
at rule xs t k h = subst (λ (m : ℕ). T (rule m (get_or xs k 0))) (zero-add k) (from rule xs 0 t k h)

-- ---- two tests

abbrev same : Bool → Bool → Bool
same true b = b
same false b = not b

same_is : (a b : Bool) → T (same a b) → a ≡ b
same_is true true t = refl
same_is true false t = absurd t
same_is false true t = absurd t
same_is false false t = refl

-- that pass for the same of the numbers below n, which is computed once
pub alike : (n : ℕ) (f g : ℕ → Bool) → T (every (λ i x. same (f i) (g i)) 0 (replicate n 0)) → (i : ℕ) → i < n → f i ≡ g i
alike n f g t i h = same_is (f i) (g i) (at (λ i x. same (f i) (g i)) (replicate n 0) t i (rw (length-replicate {A = ℕ} n 0) h))

-- ---- what holds of each row

-- of each holds what follows from what holds of it
pub each_into : {A : Type 0} (P Q : A → Type 0) → ((x : A) → P x → Q x) → (xs : List A) → Each P xs → Each Q xs
each_into P Q f [] p = tt
each_into P Q f (x ∷ xs) p = (f x p.0, each_into P Q f xs p.1)

-- each number is below m
abbrev pub Below : ℕ → List ℕ → Type 0
Below m xs = Each (λ (x : ℕ). x < m) xs

module _ {A : Type 0} (P : A → Type 0) where
  -- it holds of the row at any code
  pub any : (rows : List A) (other : A) → Each P rows → P other → (k : ℕ) → P (get_or rows k other)
  any [] other e o k = o
  any (x ∷ xs) other e o zero = e.0
  any (x ∷ xs) other e o (suc k) = any xs other e.1 o k

  -- of the row at a place of the list, whatever the other is
  pub each_in : (rows : List A) (other : A) → Each P rows → (k : ℕ) → k < length rows → P (get_or rows k other)
  each_in [] other e k h = absurd (not-suc-le-zero h)
  each_in (x ∷ xs) other e zero h = e.0
  each_in (x ∷ xs) other e (suc k) h = each_in xs other e.1 k (le_of_suc-le-suc h)

  -- and of each, where it holds of the row at any code
  pub each : (rows : List A) (other : A) → ((k : ℕ) → P (get_or rows k other)) → Each P rows
  each [] other h = tt
  each (x ∷ xs) other h = (h 0, each xs other (λ k. h (suc k)))

  pub each_append : (xs ys : List A) → Each P xs → Each P ys → Each P (xs ++ ys)
  each_append [] ys p q = q
  each_append (x ∷ xs) ys p q = (p.0, each_append xs ys p.1 q)

  -- of both parts, where it holds of the whole
  pub each_split : (xs ys : List A) → Each P (xs ++ ys) → Each P xs × Each P ys
  each_split [] ys p = (tt, p)
  each_split (x ∷ xs) ys p = let (left, right) = each_split xs ys p.1 in ((p.0, left), right)

  pub each_same : (n : ℕ) (x : A) → P x → Each P (replicate n x)
  each_same zero x p = tt
  each_same (suc n) x p = (p, each_same n x p)

  pub each_take : (k : ℕ) (xs : List A) → Each P xs → Each P (take k xs)
  each_take zero xs p = tt
  each_take (suc k) [] p = tt
  each_take (suc k) (x ∷ xs) p = (p.0, each_take k xs p.1)

  pub each_drop : (k : ℕ) (xs : List A) → Each P xs → Each P (drop k xs)
  each_drop zero xs p = p
  each_drop (suc k) [] p = tt
  each_drop (suc k) (x ∷ xs) p = each_drop k xs p.1
