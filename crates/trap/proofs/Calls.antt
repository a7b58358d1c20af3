-- Exactly when 29 and 30 are given, and what a trap leaves. Assumes nothing.
use Prim.Native.Nat.{ℕ}
use mathlib.Core.Path.{◌≡◌, ap}
use mathlib.Core.Bool.{true}
use mathlib.Core.Logic.{◌↔◌}
use Rattle.std.specs.Prelude.{Result, Ok, Err}
use Rattle.digits.specs.Refusal.{Given}
use Rattle.digits.specs.declared.refusal.Refusal.{Refusal}
use Rattle.digits.proofs.Refusals.{NoneHolds, none_first, accepts, exactly, given_none, result_tells}
use Rattle.digits.proofs.Sole.{sole}
use Rattle.machine.specs.declared.State.{State}
use Rattle.trap.specs.Trap.{standing_at, trap_checks, trap_of, state_after}
use Rattle.trap.proofs.trap.Reads as trap

pub trap_exactly : (address : ℕ) (s : State) (r : Refusal) → (trap_of address s ≡ Err r) ↔ Given r (trap_checks address s)
unfolding trap_of
trap_exactly address s r = exactly result_tells (standing_at address s.wx true s) (trap_checks address s) r

-- what one that is taken leaves
pub taken_is : (address : ℕ) (s t : State) → trap_of address s ≡ Ok t → NoneHolds (trap_checks address s) × (standing_at address s.wx true s ≡ t)
unfolding trap_of
taken_is address s t = given_none result_tells (standing_at address s.wx true s) t (λ e. cc) (trap_checks address s)

pub taken_exactly : (address : ℕ) (s : State) → (trap_of address s ≡ Ok (standing_at address s.wx true s)) ↔ NoneHolds (trap_checks address s)
unfolding trap_of
taken_exactly address s =
    (λ e. (taken_is address s _ e).0, λ none. accepts Err (Ok (standing_at address s.wx true s)) (none_first (trap_checks address s) none))

-- a refusal leaves the state
pub trap_keeps : (address : ℕ) (s : State) (r : Refusal) → trap_of address s ≡ Err r → state_after s (trap_of address s) ≡ s
trap_keeps address s r e = ap (state_after s) e

-- no second answer fits
pub trap_sole : (κs : _) (args : _) (r q : Result State Refusal) (x y : _) → trap.Post κs args r x → trap.Post κs args q y → r ≡ q
trap_sole κs args r q x y a b = sole a b
