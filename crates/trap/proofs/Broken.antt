-- A run that is broken into. Assumes nothing.
use Prim.Native.Nat.{ℕ, zero, suc, ◌≤◌}
use mathlib.Core.Path.{◌≡◌, refl, sym, ap, subst, ◌∙◌}
use mathlib.Core.List.{List}
use mathlib.Core.Bool.{Bool, true}
use native.Mathlib.Omega.{arith}
use borrow.Author.Tests.{not-true}
use Rattle.word.specs.Layout.{fields_of}
use Rattle.word.specs.declared.Fields.{Fields}
use Rattle.codes.specs.declared.Reading.{Reading}
use Rattle.storage.specs.declared.Fence.{Fence}
use Rattle.machine.specs.Cycle.{Outcome, word_at, cycle_in}
use Rattle.machine.specs.declared.State.{State}
use Rattle.machine.specs.declared.Cycled.{Cycled}
use Rattle.run.specs.Run.{run_in}
use Rattle.run.specs.Divided.{writes}
use Rattle.run.specs.declared.Finished.{Finished}
use Rattle.run.proofs.Goes.{Machine, machine, Leads, Goes, here, next, lawful, standing}
use Rattle.run.proofs.Promises.{run_at, run_goes, count_within}
use Rattle.run.proofs.Quiet.{Holding, silent_holds}
use Rattle.trap.specs.Return.{returns_next, StillOpen}
use Rattle.trap.specs.Broken.{WhereRan, Along, goes_on, silent, RoutineKeeps, Broken, RoutineReturns, RunResumes}
use Rattle.trap.proofs.Calls.{taken_is}
use Rattle.trap.proofs.Returns.{returns}

-- ---- what each cycle of such a word keeps, a run of such words keeps

abbrev AlongFrom : (Fields → Bool) → ℕ → Fence → Reading → List ℕ → Machine → Type 0
AlongFrom such n fence reading store m = Along such n fence reading store m.main m.local m.state

module _ (such : Fields → Bool) (fence : Fence) (reading : Reading) (store : List ℕ) (P : Machine → Type 0)
    (keeps : (y z : Machine) → such (fields_of (word_at store y.state)) ≡ true → Leads (cycle_in fence reading store) y z → P y → P z) where
  along_goes : {n : ℕ} {m x : Machine} → Goes (cycle_in fence reading store) n m x → (budget : ℕ) → n ≤ budget → AlongFrom such budget fence reading store m → P m → P x
  along_goes here budget h a p = p
  along_goes (next l g) zero h a p = absurd (omega arith)
  along_goes (next {m = m} {x = y} l g) (suc budget) h a p =
      let (this, rest) =
      subst
      (λ (o : Outcome Cycled). WhereRan (λ j k t. (such (fields_of (word_at store m.state)) ≡ true) × Along such budget fence reading store j k t) o.answer o.main o.local)
      (sym l) a in
      along_goes g budget (omega arith) rest (keeps m y this l p)

  pub along_run : (budget : ℕ) (m : Machine) → AlongFrom such budget fence reading store m → P m → P (standing (run_at (cycle_in fence reading store) budget store m))
  along_run budget m a p =
      along_goes (run_goes (lawful fence reading store) budget m.main m.local m.state) budget (count_within (lawful fence reading store) budget m.main m.local m.state) a p

-- ---- FWX and the latch

-- FWX and the latch of s
abbrev Open : State → Machine → Type 0
Open s m = StillOpen s m.state

cycle_open : (fence : Fence) (reading : Reading) (store : List ℕ) (s : State) (y z : Machine) → goes_on (fields_of (word_at store y.state)) ≡ true → Leads (cycle_in fence reading store) y z → Open s y → Open s z
cycle_open fence reading store s y z on l before =
    let ran = ap (λ (o : Outcome Cycled). o.answer) (sym l) in
    let still = (returns fence reading store y.main y.local y.state z.state ran).1 (not-true (returns_next store y.state) on) in
    record { held = still.held ∙ before.held; owed = still.owed ∙ before.owed }

pub routine_keeps : RoutineKeeps
routine_keeps fence reading n store main local s r along e =
    subst (λ (o : Outcome Finished). StillOpen s o.answer.state) (sym e)
    (along_run goes_on fence reading store (Open s) (cycle_open fence reading store s) n (machine s main local) along (record { held = refl; owed = refl }))

pub routine_returns : RoutineReturns
routine_returns fence reading store main local s b =
    let (none, is) = taken_is b.address s b.trapped b.trap in
    let still = routine_keeps fence reading b.cycles store main local b.trapped b.routine b.no_return b.runs in
    let done = (returns fence reading store b.routine.main b.routine.local b.routine.answer.state b.back
    (ap (λ (o : Outcome Cycled). o.answer) (sym b.returns))).0 b.last in
    let fwx : b.routine.answer.state.fwx ≡ s.wx = still.held ∙ ap (λ (t : State). t.fwx) (sym is) in
    record { next = done.next ∙ fwx; held = done.held ∙ fwx; closed = done.closed }

-- ---- over the very storages

cycle_holds : (fence : Fence) (reading : Reading) (store main local : List ℕ) (y z : Machine) → silent (fields_of (word_at store y.state)) ≡ true → Leads (cycle_in fence reading store) y z → Holding main local y → Holding main local z
cycle_holds fence reading store main local y z h = silent_holds fence reading store main local y z (not-true (writes (fields_of (word_at store y.state)).cm) h)

routine_holds : (fence : Fence) (reading : Reading) (store main local : List ℕ) (s : State) (b : Broken fence reading store main local s) → Along silent b.cycles fence reading store main local b.trapped
    → silent (fields_of (word_at store b.routine.answer.state)) ≡ true → (b.main-back ≡ main) × (b.local_back ≡ local)
routine_holds fence reading store main local s b along last =
    let m : Machine = machine b.trapped main local in
    let kept = along_run silent fence reading store (Holding main local) (cycle_holds fence reading store main local) b.cycles m along (refl, refl) in
    let in-routine : Holding main local (standing b.routine) = subst (λ (o : Outcome Finished). Holding main local (standing o)) (sym b.runs) kept in
    cycle_holds fence reading store main local (standing b.routine) (machine b.back b.main-back b.local_back) last b.returns in-routine

pub run_resumes : RunResumes
run_resumes fence reading first-budget second-budget store main local s first second e b along last f =
    let (in_main, in_local) = routine_holds fence reading store first.main first.local first.answer.state b along last in
    ((routine_returns fence reading store first.main first.local first.answer.state b).next, f ∙ λ i. run_in second-budget fence reading store (in_main i) (in_local i) b.back)
