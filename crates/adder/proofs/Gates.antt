-- The laws of the gates. Assumes nothing.
use Prim.Native.Nat.{ℕ, ◌*◌, ◌<◌}
use mathlib.Core.Path.{◌≡◌}
use mathlib.Core.List.{[], ◌∷◌, ◌++◌}
use native.Mathlib.Omega.{arith}
use Rattle.digits.specs.Digits.{high, low}
use Rattle.digits.proofs.Table.{any}
use Rattle.adder.specs.Gates.{gates, gated_a, gated_b, crossed}

-- the rows of CF, as the digits of A
pub rows : (a : ℕ) → a < 256 → 0 ∷ low a ∷ high a * 16 ∷ a ∷ 0 ∷ high a ∷ low a * 16 ∷ crossed a ∷ [] ≡ gates a ++ gates (crossed a)
rows a h =
    let l : high a ≡ low (crossed a) = omega arith in
    let u : low a * 16 ≡ high (crossed a) * 16 = omega arith in
    λ i. 0 ∷ low a ∷ high a * 16 ∷ a ∷ 0 ∷ l i ∷ u i ∷ crossed a ∷ []

-- a byte gated is a byte
pub gated_a_lt : (cf a : ℕ) → a < 256 → gated_a cf a < 256
gated_a_lt cf a h =
    any (λ (x : ℕ). x < 256) (gates a ++ gates (crossed a)) 0
    (omega arith, (omega arith, (omega arith, (h, (omega arith, (omega arith, (omega arith, (omega arith, tt)))))))) (omega arith) cf

pub gated_b_lt : (cg b : ℕ) → b < 256 → gated_b cg b < 256
gated_b_lt cg b h = any (λ (x : ℕ). x < 256) (gates b) 0 (omega arith, (omega arith, (omega arith, (h, tt)))) (omega arith) cg
