-- Whole numbers of 64 bits: their sizes and their negations, exact around zero and at the limits. Assumes nothing.
use Prim.Native.Nat.{ℕ, zero, suc, ◌-◌, ◌≤◌, ◌<◌, ◌^◌, min}
use mathlib.Core.Path.{◌≡◌, refl, ap, ◌∙◌}
use mathlib.Core.Bool.{Bool, true}
use native.Mathlib.Nat.{min-eq_left}
use native.Mathlib.Omega.{arith}
use lib.IntN.{ℤ, pos, negsuc, neg_ℤ, suc_ℤ, nat_abs, ◌+ℤ◌, ◌-ℤ◌, +ℤ_idl, +ℤ_one}
use lib.Signed.{lt_z}
use borrow.Author.Tests.{le-ltb}
use mir.Syntax.{w64}
use mir.Val.{SFits, to_z, of_z}
use mir.ValLaws.{to_z-of_z}
use Rattle.digits.specs.Packed.{signed, below_zero}
use Rattle.digits.proofs.Truth.{true_not_false}
use Rattle.digits.proofs.Packed.{size_signed}
use Rattle.signed.specs.Signed.{greatest}

-- what the machine reads of a number that fits is the number
pub reads : (z : ℤ) → SFits w64 z → to_z w64 (of_z w64 z) ≡ z
reads z f = to_z-of_z w64 z f

-- the machine's -z is 0 - z
minus_is : (z : ℤ) → pos 0 -ℤ z ≡ neg_ℤ z
minus_is z = +ℤ_idl (neg_ℤ z)

-- the machine's test z < 0
pub below_zero_lem : (z : ℤ) → lt_z z (pos 0) ≡ below_zero z
below_zero_lem (pos n) = le-ltb n 0 (omega arith)
below_zero_lem (negsuc n) = refl

-- ---- from a size

pub within : (z : ℤ) → nat_abs z ≤ greatest → SFits w64 z
within (pos n) h = record { sfits = omega arith }
within (negsuc n) h = record { sfits = omega arith }

-- what is made of a size is read as it was made
pub signed_reads : (n : ℕ) → n ≤ greatest → (minus : Bool) → to_z w64 (of_z w64 (signed minus (min n greatest))) ≡ signed minus n
signed_reads n h minus =
    let e : min n greatest ≡ n = min-eq_left h in
    rw e (reads (signed minus n) (within (signed minus n) (rw (size_signed minus n) h)))

-- ---- to a size

-- a number below zero, one up and negated, is its size less one: so the least has a size too
pub record Down (z : ℤ) : Type 0 where
  pub up_fits : SFits w64 (z +ℤ pos 1)
  pub up_reads : to_z w64 (of_z w64 (z +ℤ pos 1)) ≡ suc_ℤ z
  pub down_fits : SFits w64 (pos 0 -ℤ suc_ℤ z)
  pub down_reads : to_z w64 (of_z w64 (pos 0 -ℤ suc_ℤ z)) ≡ pos (nat_abs z - 1)
  pub some : 0 < nat_abs z
  pub room : nat_abs z ≤ 2 ^ 63

pub down : (z : ℤ) → SFits w64 z → lt_z z (pos 0) ≡ true → Down z
down (pos n) f t = absurd (true_not_false t (below_zero_lem (pos n)))
down (negsuc n) f t =
    let h = f.sfits in
    let u : SFits w64 (negsuc n +ℤ pos 1) = rw +ℤ_one (one_up n h) in
    let e : neg_ℤ (suc_ℤ (negsuc n)) ≡ pos n = back n in
    let d : SFits w64 (pos 0 -ℤ suc_ℤ (negsuc n)) = rw (minus_is, e) (record { sfits = omega arith }) in
    record { up_fits = u; up_reads = reads _ u ∙ +ℤ_one (negsuc n); down_fits = d; down_reads = reads _ d ∙ minus_is (suc_ℤ (negsuc n)) ∙ e ∙ ap pos (omega arith); some = omega arith; room = omega arith }
  where
    one_up : (n : ℕ) → n < 2 ^ 63 → SFits w64 (suc_ℤ (negsuc n))
    one_up zero h = record { sfits = omega arith }
    one_up (suc n) h = record { sfits = omega arith }

    back : (n : ℕ) → neg_ℤ (suc_ℤ (negsuc n)) ≡ pos n
    back zero = refl
    back (suc n) = refl
