-- One turn of a run, by what its cycle answered. Assumes nothing.
use Prim.Native.Nat.{ℕ, suc, ◌+◌, ◌-◌, ◌<◌}
use mathlib.Core.Path.{◌≡◌, refl, sym, ap, ◌∙◌}
use mathlib.Core.List.{List}
use native.Mathlib.Omega.{arith}
use lib.ListN.{length}
use Rattle.std.specs.Prelude.{Option, Some, None}
use Rattle.digits.specs.Refusal.{first}
use Rattle.digits.specs.declared.refusal.Refusal.{Refusal}
use Rattle.machine.specs.Cycle.{Outcome, outcome}
use Rattle.machine.specs.declared.State.{State}
use Rattle.machine.specs.declared.Cycled.{Cycled}
use Rattle.run.specs.Run.{Cycle, ended, onward, cycles_of, run_checks, run_by, run_over}
use Rattle.run.specs.declared.Ending.TheVariants.{Refused, Spent}

pub spent : (cycle : Cycle) (main local : List ℕ) (s : State) (n : ℕ) → cycles_of 0 cycle main local s n ≡ ended Spent s n main local
unfolding cycles_of
spent cycle main local s n = refl

pub turn : (budget : ℕ) (cycle : Cycle) (main local : List ℕ) (s : State) (n : ℕ) (r : Cycled) (m l : List ℕ) → outcome r m l ≡ cycle main local s
    → cycles_of (suc budget) cycle main local s n ≡ onward (cycles_of budget cycle) r m l n
unfolding cycles_of
turn budget cycle main local s n r m l o = ap (λ (x : Outcome Cycled). onward (cycles_of budget cycle) x.answer x.main x.local n) (sym o)

-- with d of b cycles done
pub on_spent : (b d : ℕ) (cycle : Cycle) (main local : List ℕ) (s : State) → d ≡ b → cycles_of (b - d) cycle main local s d ≡ ended Spent s d main local
on_spent b d cycle main local s e = let z : b - d ≡ 0 = omega arith in rw (z, spent)

pub on_answer : (b d : ℕ) (cycle : Cycle) (main local m l : List ℕ) (s : State) (r x : Cycled) → d < b → outcome r m l ≡ cycle main local s → r ≡ x
    → cycles_of (b - d) cycle main local s d ≡ onward (cycles_of (b - (d + 1)) cycle) x m l d
on_answer b d cycle main local m l s r x less o e =
    let z : b - d ≡ suc (b - (d + 1)) = omega arith in
    ap (λ (n : ℕ). cycles_of n cycle main local s d) z
    ∙ turn (b - (d + 1)) cycle main local s d r m l o
    ∙ ap (λ (y : Cycled). onward (cycles_of (b - (d + 1)) cycle) y m l d) e

-- a run that is refused at once, and one that is not
module _ (cycle : Cycle) (budget : ℕ) (store main local : List ℕ) (s : State) where
  pub refused_at_once : (r : Refusal) → first (run_checks (length store) (length main) (length local) budget) ≡ Some r
      → ended (Refused r) s 0 main local ≡ run_over cycle budget store main local s
  unfolding run_over
  refused_at_once r e = sym (ap (λ (k : Option Refusal). run_by k budget cycle main local s) e)

  pub begins : first (run_checks (length store) (length main) (length local) budget) ≡ None
      → cycles_of budget cycle main local s 0 ≡ run_over cycle budget store main local s
  unfolding run_over
  begins e = sym (ap (λ (k : Option Refusal). run_by k budget cycle main local s) e)
