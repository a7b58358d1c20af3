-- A run that is broken into. Assumes nothing.
use Rattle.std.specs.Prelude.{ℕ, zero, suc, ◌≡◌, List, Bool, true, false, not, Ok}
use Rattle.word.specs.Layout.{fields_of}
use Rattle.word.specs.Parity.{is_return}
use Rattle.word.specs.declared.Fields.{Fields}
use Rattle.codes.specs.declared.Reading.{Reading}
use Rattle.storage.specs.declared.Fence.{Fence}
use Rattle.machine.specs.Cycle.{Outcome, outcome, word_at, cycle_in}
use Rattle.machine.specs.declared.State.{State}
use Rattle.machine.specs.declared.Cycled.{Cycled}
use Rattle.machine.specs.declared.Cycled.TheVariants as C
use Rattle.run.specs.Run.{run_in}
use Rattle.run.specs.Divided.{writes}
use Rattle.run.specs.declared.Finished.{Finished}
use Rattle.trap.specs.Trap.{trap_of}
use Rattle.trap.specs.Return.{returns_next, StillOpen}

-- what is to hold after a cycle, where it ran
abbrev pub WhereRan : (List ℕ → List ℕ → State → Type 0) → Cycled → List ℕ → List ℕ → Type 0
WhereRan holds (C.Ran t) main local = holds main local t
WhereRan holds (C.Stopped t) main local = Unit {0}
WhereRan holds (C.Refused t refusal) main local = Unit {0}

-- of n cycles in a row, as far as they run, each is of such a word
abbrev pub Along : (Fields → Bool) → ℕ → Fence → Reading → List ℕ → List ℕ → List ℕ → State → Type 0
Along such zero fence reading store main local s = Unit {0}
Along such (suc n) fence reading store main local s =
    let o : Outcome Cycled = cycle_in fence reading store main local s in
    WhereRan (λ m l t. (such (fields_of (word_at store s)) ≡ true) × Along such n fence reading store m l t) o.answer o.main o.local

-- no return word; and no Write and no Store word
abbrev pub goes_on : Fields → Bool
goes_on f = not (is_return f)

abbrev pub silent : Fields → Bool
silent f = not (writes f.cm)

-- cycles none of which is a return word keep FWX and the latch, whatever the budget and the ending
abbrev pub RoutineKeeps : Type 0
RoutineKeeps =
    (fence : Fence) (reading : Reading) (n : ℕ) (store main local : List ℕ) (s : State) (r : Outcome Finished)
    → Along goes_on n fence reading store main local s
    → r ≡ run_in n fence reading store main local s
    → StillOpen s r.answer.state

-- a machine that stands at s is broken into: a trap, a routine of so many cycles, and a return word that ran
pub record Broken (fence : Fence) (reading : Reading) (store main local : List ℕ) (s : State) : Type 0 where
  pub address : ℕ
  pub trapped : State
  pub trap : trap_of address s ≡ Ok trapped
  pub cycles : ℕ
  pub routine : Outcome Finished
  pub runs : routine ≡ run_in cycles fence reading store main local trapped
  pub no_return : Along goes_on cycles fence reading store main local trapped
  pub last : returns_next store routine.answer.state ≡ true
  pub back : State
  pub main-back : List ℕ
  pub local_back : List ℕ
  pub returns : outcome (C.Ran back) main-back local_back ≡ cycle_in fence reading store routine.main routine.local routine.answer.state

-- "resumes at the very word broken into"; "The return word closes the trap."
pub record Resumes (s u : State) : Type 0 where
  pub next : u.wx ≡ s.wx
  pub held : u.fwx ≡ s.wx
  pub closed : u.owed ≡ false

-- whatever the routine does to registers and storage
abbrev pub RoutineReturns : Type 0
RoutineReturns = (fence : Fence) (reading : Reading) (store main local : List ℕ) (s : State) (b : Broken fence reading store main local s) → Resumes s b.back

-- a run, broken into by a routine that, with its return word, writes no storage, goes on from the very WX and over the very storages
abbrev pub RunResumes : Type 0
RunResumes =
    (fence : Fence) (reading : Reading) (first-budget second-budget : ℕ) (store main local : List ℕ) (s : State) (first second : Outcome Finished)
    → first ≡ run_in first-budget fence reading store main local s
    → (b : Broken fence reading store first.main first.local first.answer.state)
    → Along silent b.cycles fence reading store first.main first.local b.trapped
    → silent (fields_of (word_at store b.routine.answer.state)) ≡ true
    → second ≡ run_in second-budget fence reading store b.main-back b.local_back b.back
    → (b.back.wx ≡ first.answer.state.wx) × (second ≡ run_in second-budget fence reading store first.main first.local b.back)
