-- The laws of tests: what "and" and "or" tell of their parts, and what cannot be. Assumes nothing.
use Prim.Native.Nat.{ℕ, ◌≤◌, ◌<◌}
use mathlib.Core.Path.{◌≡◌, refl, sym}
use mathlib.Core.Bool.{Bool, true, false, cond, ◌&&◌, ◌||◌}
use native.Mathlib.Omega.{arith}
use lib.Dec.{leb}
use borrow.Author.Tests.{leb-true, leb-false, le-leb, lt-leb}

-- what `cc` finds where two cases of an enum are said to be the same
pub zero_one : ◌≡◌ {A = ℕ} 0 1 → ⊥
zero_one e = omega arith

pub true_not_false : {b : Bool} → b ≡ true → b ≡ false → ⊥
true_not_false p q = zero_one cc

pub both : (a b : Bool) → a && b ≡ true → (a ≡ true) × (b ≡ true)
both true b h = (refl, h)
both false b h = absurd (zero_one cc)

pub neither : (a b : Bool) → a || b ≡ false → (a ≡ false) × (b ≡ false)
neither true b h = absurd (zero_one cc)
neither false b h = (refl, h)

-- the same either way
pub either_way : {A : Type 0} (z : Bool) (x : A) → cond z x x ≡ x
either_way true x = refl
either_way false x = refl

-- two tests that pass together are one
pub same_test : (a b c d : ℕ) → (a ≤ b → c ≤ d) → (b < a → d < c) → leb a b ≡ leb c d
same_test a b c d on off = by (leb a b) refl
  where
    by : (t : Bool) → leb a b ≡ t → t ≡ leb c d
    by true e = sym (le-leb c d (on (leb-true a b e)))
    by false e = sym (lt-leb c d (off (leb-false a b e)))
