-- A digit corrected is a digit. Assumes nothing.
use Prim.Native.Nat.{ℕ, ◌<◌}
use mathlib.Core.Bool.{Bool, true, false}
use native.Mathlib.Omega.{arith}
use Rattle.rule.specs.Correction.{lowered}

pub lowered_lt : (carried : Bool) (digit : ℕ) → digit < 16 → lowered carried digit < 16
lowered_lt true digit h = h
lowered_lt false digit h = omega arith
