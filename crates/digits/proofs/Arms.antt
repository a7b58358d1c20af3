-- The default of a `match` on a number whose arms are 0, 1, .., n - 1: what `c.match.rest` says, as one bound. Assumes nothing.
use mathlib.Core.Path.{◌≡◌}
use Prim.Native.Nat.{ℕ, zero, suc, ◌≤◌, zero-le}
use native.Mathlib.Omega.{arith}

abbrev pub Not-below : ℕ → ℕ → Type 0
Not-below zero k = Unit {0}
Not-below (suc n) k = Not-below n k × (k ≡ n → ⊥)

pub at_least : (n k : ℕ) → Not-below n k → n ≤ k
at_least zero k r = zero-le
at_least (suc n) k r =
    let h : n ≤ k = at_least n k r.0 in
    let e : k ≡ n → ⊥ = r.1 in
    omega arith
