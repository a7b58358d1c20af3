-- "A run checks 1, 22, then cycles until stop, refusal or budget, and returns how many cycles ran." Assumes nothing.
use Rattle.std.specs.Prelude.{ℕ, zero, suc, ◌+◌, List, [], ◌∷◌, ltb, length, Option, Some, None}
use Rattle.digits.specs.Refusal.{Check, first}
use Rattle.digits.specs.Sizes.{sizes_wrong}
use Rattle.digits.specs.declared.refusal.Refusal.{Refusal}
use Rattle.digits.specs.declared.refusal.Refusal.TheVariants as R
use Rattle.codes.specs.declared.Reading.{Reading}
use Rattle.storage.specs.Storage.{whole}
use Rattle.storage.specs.declared.Fence.{Fence}
use Rattle.machine.specs.Cycle.{Outcome, outcome, cycle_in}
use Rattle.machine.specs.declared.State.{State}
use Rattle.machine.specs.declared.Cycled.{Cycled}
use Rattle.machine.specs.declared.Cycled.TheVariants as C
use Rattle.run.specs.declared.Ending.{Ending}
use Rattle.run.specs.declared.Ending.TheVariants.{Stopped, Refused, Spent}
use Rattle.run.specs.declared.Finished.{Finished}

-- a cycle over some store: what it answers, and leaves
abbrev pub Cycle : Type 0
Cycle = List ℕ → List ℕ → State → Outcome Cycled

-- "Its answer is stopped, refused with the number (and 10's field), or budget spent."
abbrev pub ended : Ending → State → ℕ → List ℕ → List ℕ → Outcome Finished
ended ending state count main local = outcome (record { ending = ending; state = state; count = count }) main local

-- after a cycle with n cycles done before it; `rest` is what is left of the run
abbrev pub onward : (List ℕ → List ℕ → State → ℕ → Outcome Finished) → Cycled → List ℕ → List ℕ → ℕ → Outcome Finished
onward rest (C.Ran t) main local n = rest main local t (n + 1)
onward rest (C.Stopped t) main local n = ended Stopped t n main local
onward rest (C.Refused t refusal) main local n = ended (Refused refusal) t n main local

-- "Once that many cycles have run the answer is budget spent, even before a word that would stop or be refused; so budget 0 runs none."
unfoldable pub cycles_of : ℕ → Cycle → List ℕ → List ℕ → State → ℕ → Outcome Finished
cycles_of zero cycle main local s n = ended Spent s n main local
cycles_of (suc budget) cycle main local s n =
    let o : Outcome Cycled = cycle main local s in
    onward (cycles_of budget cycle) o.answer o.main o.local n

-- 1, then 22: "budget over 1,000,000"
abbrev pub run_checks : ℕ → ℕ → ℕ → ℕ → List (Check Refusal)
run_checks store main local budget = (R.Size, sizes_wrong store main local) ∷ (R.Budget, ltb 1000000 budget) ∷ []

abbrev pub run_by : Option Refusal → ℕ → Cycle → List ℕ → List ℕ → State → Outcome Finished
run_by (Some refusal) budget cycle main local s = ended (Refused refusal) s 0 main local
run_by None budget cycle main local s = cycles_of budget cycle main local s 0

-- a run of any cycle over a store
unfoldable pub run_over : Cycle → ℕ → List ℕ → List ℕ → List ℕ → State → Outcome Finished
run_over cycle budget store main local s = run_by (first (run_checks (length store) (length main) (length local) budget)) budget cycle main local s

-- the machine's, in a fence and under a reading
abbrev pub run_in : ℕ → Fence → Reading → List ℕ → List ℕ → List ℕ → State → Outcome Finished
run_in budget fence reading store main local s = run_over (cycle_in fence reading store) budget store main local s

-- all main storage in the fence
abbrev pub run_of : ℕ → Reading → List ℕ → List ℕ → List ℕ → State → Outcome Finished
run_of budget reading store main local s = run_in budget whole reading store main local s

-- the refusal of each ending, none where it does not refuse
abbrev pub refusal_by : Ending → Option Refusal
refusal_by Stopped = None
refusal_by (Refused refusal) = Some refusal
refusal_by Spent = None

-- the answer of a cycle, from a run of one
abbrev pub cycle_by : Ending → State → Cycled
cycle_by Spent s = C.Ran s
cycle_by Stopped s = C.Stopped s
cycle_by (Refused refusal) s = C.Refused s refusal
