-- The first refusal of the checks of each element in turn. Assumes nothing.
use Rattle.std.proofs.Common.{◌≡◌, ℕ, zero, suc, ◌+◌, ◌<◌, List, [], ◌∷◌, ◌++◌, length, get_or, take, drop, add-zero, add-suc, suc-add, arith, Some, None}
use Rattle.digits.specs.Refusal.{Check, first}
use Rattle.digits.proofs.Refusals.{NoneHolds, first_append}
use Rattle.digits.proofs.Table.{each_append, each_split}
use Rattle.digits.specs.Lists.{in_turn}
use Rattle.digits.proofs.Lists.{placed_step}

module _ {R A : Type 0} (f : ℕ → A → List (Check R)) where
  -- a loop's turn past an element that is not refused, and its stop at one that is
  pub turn_step : (d : A) (l : List A) (a i : ℕ) → i < length l → first (f (a + i) (get_or l i d)) ≡ None
      → first (in_turn f (a + (i + 1)) (drop (i + 1) l)) ≡ first (in_turn f (a + i) (drop i l))
  turn_step d l a i h e = rw (placed_step f l d a i h, first_append (f (a + i) (get_or l i d)) _, e)

  pub turn_stop : (d : A) (l : List A) (a i : ℕ) (r : R) → i < length l → first (f (a + i) (get_or l i d)) ≡ Some r
      → Some r ≡ first (in_turn f (a + i) (drop i l))
  turn_stop d l a i r h e = rw (placed_step f l d a i h, first_append (f (a + i) (get_or l i d)) _, e)

  -- no refusal, of a part and of the whole
  pub none_take : (l : List A) (a k : ℕ) → NoneHolds (in_turn f a l) → NoneHolds (in_turn f a (take k l))
  none_take l a zero h = tt
  none_take [] a (suc k) h = tt
  none_take (x ∷ l) a (suc k) h =
      each_append _ (f a x) _ (each_split _ (f a x) _ h).0 (none_take l (suc a) k (each_split _ (f a x) _ h).1)

  pub none_drop : (l : List A) (a k : ℕ) → NoneHolds (in_turn f a l) → NoneHolds (in_turn f (a + k) (drop k l))
  none_drop l a zero h = rw (add-zero a) h
  none_drop [] a (suc k) h = tt
  none_drop (x ∷ l) a (suc k) h = rw (add-suc a k, ← suc-add a k) (none_drop l (suc a) k (each_split _ (f a x) _ h).1)

  pub none_both : (l m : List A) (a : ℕ) → NoneHolds (in_turn f a l) → NoneHolds (in_turn f (a + length l) m) → NoneHolds (in_turn f a (l ++ m))
  none_both [] m a h k = rw (add-zero a) at k
  none_both (x ∷ l) m a h k =
      each_append _ (f a x) _ (each_split _ (f a x) _ h).0
      (none_both l m (suc a) (each_split _ (f a x) _ h).1 (rw (suc-add a (length l), ← add-suc a (length l)) k))

  pub none_at : (d : A) (l : List A) (a : ℕ) → NoneHolds (in_turn f a l) → (i : ℕ) → i < length l → NoneHolds (f (a + i) (get_or l i d))
  none_at d [] a h i k = absurd (omega arith)
  none_at d (x ∷ l) a h zero k = rw (add-zero a) (each_split _ (f a x) _ h).0
  none_at d (x ∷ l) a h (suc i) k = rw (add-suc a i, ← suc-add a i) (none_at d l (suc a) (each_split _ (f a x) _ h).1 i (omega arith))
