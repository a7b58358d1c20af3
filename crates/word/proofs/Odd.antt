-- The bit that makes a number of ones odd. Assumes nothing.
use Prim.Native.Nat.{ℕ, zero, suc, ◌+◌, ◌-◌, ◌%◌, ◌<◌}
use mathlib.Core.Path.{◌≡◌, refl, ap, ◌∙◌}
use mathlib.Core.List.{List, [], ◌∷◌, ◌++◌}
use mathlib.Core.Bool.{false}
use borrow.Author.Tests.{ne_eqb, eqb-false}
use native.Mathlib.Nat.{not-suc-le-zero, le_of_suc-le-suc}
use native.Mathlib.Omega.{arith}
use lib.Count.{ones}
use Rattle.digits.specs.Line.{ones_of}
use Rattle.word.specs.Parity.{wrong, odd_bit}

ones_bit : (b : ℕ) → b < 2 → ones b ≡ b
unfolding ones
ones_bit zero h = refl
ones_bit (suc zero) h = refl
ones_bit (suc (suc b)) h = absurd (not-suc-le-zero (le_of_suc-le-suc (le_of_suc-le-suc h)))

ones_last : (vs : List ℕ) (b : ℕ) → b < 2 → ones_of (vs ++ (b ∷ [])) ≡ ones_of vs + b
ones_last [] b h = omega (arith, ones_bit b h)
ones_last (v ∷ vs) b h = omega (arith, ones_last vs b h)

pub odd_lt : (vs : List ℕ) → odd_bit vs < 2
odd_lt vs = omega arith

-- with that bit the parity is right
pub odd_makes : (vs : List ℕ) → wrong (vs ++ (odd_bit vs ∷ [])) ≡ false
odd_makes vs = ne_eqb (ones_of (vs ++ (odd_bit vs ∷ [])) % 2) 0 (λ e. omega (arith, ones_last vs (odd_bit vs) (odd_lt vs)))

-- and with no other
pub odd_is : (vs : List ℕ) (b : ℕ) → b < 2 → wrong (vs ++ (b ∷ [])) ≡ false → odd_bit vs ≡ b
odd_is vs b h e = only (ones_of (vs ++ (b ∷ []))) (ones_of vs) b h (ones_last vs b h) (eqb-false _ _ e)
  where
    only : (x y b : ℕ) → b < 2 → x ≡ y + b → (x % 2 ≡ 0 → ⊥) → 1 - y % 2 ≡ b
    only x y b h p q = omega arith

-- a parity bit that still is 0 adds no one
pub odd_blank : (vs : List ℕ) → 1 - ones_of (vs ++ (0 ∷ [])) % 2 ≡ odd_bit vs
odd_blank vs = ap (λ (n : ℕ). 1 - n % 2) (ones_last vs 0 (omega arith) ∙ omega arith)
