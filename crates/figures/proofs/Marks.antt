-- The marks of a typed number, by the characters at its ends. Assumes nothing.
use Prim.Native.Nat.{ℕ, ◌-◌, ◌<◌, ◌≤◌}
use mathlib.Core.Path.{◌≡◌, refl, sym, ◌∙◌}
use mathlib.Core.List.{List, [], ◌∷◌, ◌++◌}
use mathlib.Core.Bool.{Bool, true, false}
use native.Mathlib.Omega.{arith}
use borrow.Author.Tests.{lt-ltb, le-ltb, ne_eqb, ltb-true, ltb-false}
use lib.Dec.{ltb}
use lib.ListN.{length, get_or, take, drop}
use Rattle.figures.specs.Typed.{from_last, is_mark, sign_for, typed_digits}

module _ (text : List ℕ) where
  last_is : 1 ≤ length text → from_last 0 text ≡ get_or text (length text - 1) 0
  last_is h = let k : length text - 1 - 0 ≡ length text - 1 = omega arith in rw (lt-ltb 0 (length text) h, k) refl

  before_is : 2 ≤ length text → from_last 1 text ≡ get_or text (length text - 2) 0
  before_is h = let k : length text - 1 - 1 ≡ length text - 2 = omega arith in rw (lt-ltb 1 (length text) h, k) refl

  before_none : length text < 2 → from_last 1 text ≡ 0
  before_none h = rw (le-ltb 1 (length text) (omega arith)) refl

  pub first_mark : true ≡ is_mark (get_or text 0 0) → take (length text - 1) (drop 1 text) ++ (sign_for (get_or text 0 0) ∷ []) ≡ typed_digits text
  unfolding typed_digits
  first_mark m = let k : length text - 0 - 1 ≡ length text - 1 = omega arith in rw (sym m, k) refl

  module _ (some : 1 ≤ length text) (no_first : false ≡ is_mark (get_or text 0 0)) where
    pub last_mark : true ≡ is_mark (get_or text (length text - 1) 0) → take (length text - 1) text ++ (sign_for (get_or text (length text - 1) 0) ∷ []) ≡ typed_digits text
    unfolding typed_digits
    last_mark m = let k : length text - 1 - 0 ≡ length text - 1 = omega arith in rw (sym no_first, last_is some, sym m, k) refl

    module _ (no_last : false ≡ is_mark (get_or text (length text - 1) 0)) where
      pub sign_itself : 2 ≤ length text → get_or text (length text - 2) 0 ≡ 58 → take (length text - 2) text ++ (get_or text (length text - 1) 0 ∷ []) ≡ typed_digits text
      unfolding typed_digits
      sign_itself h e = let k : length text - 2 - 0 ≡ length text - 2 = omega arith in rw (sym no_first, last_is some, sym no_last, before_is h, e, k) refl

      pub no_sign : (2 ≤ length text → get_or text (length text - 2) 0 ≡ 58 → ⊥) → text ++ (67 ∷ []) ≡ typed_digits text
      unfolding typed_digits
      no_sign n = rw (sym no_first, last_is some, sym no_last, ne_eqb (from_last 1 text) 58 (no_colon (ltb 1 (length text)) refl)) refl
        where
          no_colon : (b : Bool) → ltb 1 (length text) ≡ b → from_last 1 text ≡ 58 → ⊥
          no_colon true e c = let h = ltb-true 1 (length text) e in n h (sym (before_is h) ∙ c)
          no_colon false e c = let z = before_none (omega (arith, ltb-false 1 (length text) e)) in absurd (omega arith)

pub nothing : (text : List ℕ) → length text < 1 → text ++ (67 ∷ []) ≡ typed_digits text
unfolding typed_digits
nothing [] h = refl
nothing (c ∷ text) h = absurd (omega arith)
