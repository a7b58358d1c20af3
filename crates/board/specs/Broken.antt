-- A run that traps break into. Assumes nothing.
use Rattle.std.specs.Prelude.{◌≡◌, ℕ, ◌-◌, Bool, true, false, cond, List, [], ◌∷◌}
use Rattle.codes.specs.declared.Reading.{Reading}
use Rattle.machine.specs.Cycle.{Outcome}
use Rattle.machine.specs.declared.State.{State}
use Rattle.run.specs.Run.{run_of}
use Rattle.run.specs.declared.Ending.{Ending}
use Rattle.run.specs.declared.Ending.TheVariants as E
use Rattle.run.specs.declared.Finished.{Finished}
use Rattle.trap.specs.Trap.{trap_of, state_after}

-- the run may go on
abbrev pub is_spent : Ending → Bool
is_spent E.Stopped = false
is_spent (E.Refused refusal) = false
is_spent E.Spent = true

-- a trap after a piece of a run, and the rest from there; a piece that stopped or was refused ends the run
abbrev pub on_trap : ℕ → (List ℕ → List ℕ → State → Outcome Finished) → Outcome Finished → Outcome Finished
on_trap address rest o = cond (is_spent o.answer.ending) (rest o.main o.local (state_after o.answer.state (trap_of address o.answer.state))) o

-- a run with traps, each after so many cycles more, to an address; what is left of the budget runs after the last. The count is the last
-- piece's.
unfoldable pub broken_of : List (ℕ × ℕ) → ℕ → Reading → List ℕ → List ℕ → List ℕ → State → Outcome Finished
broken_of [] budget reading store main local s = run_of budget reading store main local s
broken_of ((cycles, address) ∷ traps) budget reading store main local s =
    on_trap address (broken_of traps (budget - cycles) reading store) (run_of cycles reading store main local s)

-- some traps broke into the run; which, the command line says
pub record BrokenInto (budget : ℕ) (reading : Reading) (store main local : List ℕ) (s : State) (o : Outcome Finished) : Type 0 where
  pub traps : List (ℕ × ℕ)
  pub run : o ≡ broken_of traps budget reading store main local s
