-- When a run is refused at once, and that no second answer fits. Assumes nothing.
use Prim.Native.Nat.{ℕ, ◌<◌, ◌≤◌}
use mathlib.Core.Path.{◌≡◌, refl, sym, ap, subst, ◌∙◌}
use mathlib.Core.List.{List}
use mathlib.Core.Bool.{Bool, true, false}
use mathlib.Core.Logic.{◌⊎◌, inl, inr, ◌↔◌}
use native.Mathlib.Omega.{arith}
use borrow.Author.Rules.{rules}
use borrow.Author.Tests.{le-ltb}
use lib.ListN.{length}
use Rattle.std.specs.Prelude.{Option, Some, None}
use Rattle.digits.specs.Refusal.{Check, first, Given, refusal_number, refusal_field}
use Rattle.digits.specs.Sizes.{sizes_wrong}
use Rattle.digits.specs.declared.refusal.Refusal.{Refusal}
use Rattle.digits.specs.declared.refusal.Refusal.TheVariants as R
use Rattle.digits.proofs.Refusals.{NoneHolds, none_first, first_none, given_first, first_given, first_is, some_not_none}
use Rattle.digits.proofs.Sole.{sole}
use Rattle.digits.proofs.Truth.{zero_one}
use Rattle.machine.specs.Cycle.{Outcome, outcome, refusal_in}
use Rattle.machine.specs.declared.State.{State}
use Rattle.machine.specs.declared.Cycled.{Cycled}
use Rattle.run.specs.Run.{Cycle, ended, cycles_of, run_checks, run_by, run_over, run_in, refusal_by}
use Rattle.run.specs.declared.Ending.{Ending}
use Rattle.run.specs.declared.Ending.TheVariants.{Stopped, Refused, Spent}
use Rattle.run.specs.declared.Finished.{Finished}
use Rattle.run.proofs.Runs.{refused_at_once, begins}
use Rattle.run.proofs.Goes.{Machine, machine, Halts, Goes, here, Wrong, Right, Lawful, goes_right, Ends, run_from, standing, done}
use Rattle.run.proofs.refusal.Reads as refusal
use Rattle.run.proofs.run_in.Reads as run_in_reads
use Rattle.run.proofs.run.Reads as run
use Rattle.run.proofs.one.Reads as one

-- 1 and 22: given by the list, nothing is done; given by none, the cycles begin
module _ (cycle : Cycle) (budget : ℕ) (store main local : List ℕ) (s : State) where
  pub run_refused : (r : Refusal) → Given r (run_checks (length store) (length main) (length local) budget) → ended (Refused r) s 0 main local ≡ run_over cycle budget store main local s
  run_refused r g = refused_at_once cycle budget store main local s r (given_first (run_checks (length store) (length main) (length local) budget) r g)

  pub run_begins : NoneHolds (run_checks (length store) (length main) (length local) budget) → cycles_of budget cycle main local s 0 ≡ run_over cycle budget store main local s
  run_begins g = begins cycle budget store main local s (none_first (run_checks (length store) (length main) (length local) budget) g)

-- the run from a machine on, and the answer that is 1
abbrev pub run_at : Cycle → ℕ → List ℕ → Machine → Outcome Finished
run_at cycle budget store m = run_over cycle budget store m.main m.local m.state

abbrev pub refused_by1 : Machine → Outcome Finished
refused_by1 m = ended (Refused R.Size) m.state 0 m.main m.local

module _ (cycle : Cycle) (store : List ℕ) (m : Machine) where
  pub wrong_refused : Wrong store m → (budget : ℕ) → refused_by1 m ≡ run_at cycle budget store m
  wrong_refused wrong budget = refused_at_once cycle budget store m.main m.local m.state R.Size (rw wrong)

  pub right_begins : Right store m → (budget : ℕ) → budget ≤ 1000000 → run_from budget 0 cycle m ≡ run_at cycle budget store m
  right_begins right budget most = run_begins cycle budget store m.main m.local m.state (right, (le-ltb 1000000 budget most, tt))

  -- so a run within the limit is refused by 1, or is its cycles
  pub by_sizes : (budget : ℕ) → budget ≤ 1000000 → (P : Outcome Finished → Type 0) → (Wrong store m → P (refused_by1 m)) → (Right store m → P (run_from budget 0 cycle m))
      → P (run_at cycle budget store m)
  by_sizes budget most P wrong right = by (sizes_wrong (length store) (length m.main) (length m.local)) refl
    where
      by : (b : Bool) → sizes_wrong (length store) (length m.main) (length m.local) ≡ b → P (run_at cycle budget store m)
      by true e = subst P (wrong_refused e budget) (wrong e)
      by false e = subst P (right_begins e budget most) (right e)

-- ---- what holds of every run: it is refused at once, by a byte, or is its cycles

ends_within : (cycle : Cycle) (budget n : ℕ) (ending : Ending) (x : Machine) → Ends cycle budget n ending x → n ≤ budget
ends_within cycle budget n Spent x e = omega arith
ends_within cycle budget n Stopped x (h, a) = omega arith
ends_within cycle budget n (Refused r) x (h, a) = omega arith

abbrev pub Small : Ending → Type 0
Small Spent = Unit {0}
Small Stopped = Unit {0}
Small (Refused r) = (refusal_number r < 256) × (refusal_field r < 256)

ending_small : {store : List ℕ} {cycle : Cycle} → Lawful store cycle → (budget k : ℕ) (ending : Ending) (x : Machine) → Ends cycle budget k ending x → Small ending
ending_small law budget k Spent x e = tt
ending_small law budget k Stopped x e = tt
ending_small law budget k (Refused r) x e =
    law.refusal_small x.main x.local x.state x.state r (ap (λ (o : Outcome Cycled). o.answer) (sym e.1))

module _ {store : List ℕ} {cycle : Cycle} (law : Lawful store cycle) (budget : ℕ) (main local : List ℕ) (s : State) where
  abbrev m : Machine
  m = machine s main local

  by_checks : (P : Outcome Finished → Type 0) → ((r : Refusal) → (refusal_number r < 256) × (refusal_field r < 256) → P (ended (Refused r) s 0 main local)) → P (run_from budget 0 cycle m)
      → P (run_over cycle budget store main local s)
  unfolding run_over
  by_checks P refused cycles = by (first cs) refl
    where
      cs : List (Check Refusal)
      cs = run_checks (length store) (length main) (length local) budget

      by : (k : Option Refusal) → first cs ≡ k → P (run_by k budget cycle main local s)
      by (Some r) e = refused r (first_is (λ (q : Refusal). (refusal_number q < 256) × (refusal_field q < 256)) cs (search rules) e)
      by None e = cycles

  -- as many single cycles as it counts, whatever its ending
  pub run_goes : Goes cycle (run_over cycle budget store main local s).answer.count m (standing (run_over cycle budget store main local s))
  run_goes =
      let r : Outcome Finished = run_from budget 0 cycle m in
      let d = done law budget 0 m in
      let c = d.counted in
      let n : d.cycles ≡ r.answer.count = omega arith in
      by_checks (λ (x : Outcome Finished). Goes cycle x.answer.count m (standing x)) (λ k h. here) (subst (λ (j : ℕ). Goes cycle j m (standing r)) n d.goes)

  -- where it stopped the next cycle stops
  pub run_halts : (run_over cycle budget store main local s).answer.ending ≡ Stopped → Halts cycle (standing (run_over cycle budget store main local s))
  run_halts =
      let r : Outcome Finished = run_from budget 0 cycle m in
      let d = done law budget 0 m in
      by_checks (λ (x : Outcome Finished). x.answer.ending ≡ Stopped → Halts cycle (standing x)) (λ k h e. absurd (zero_one cc))
      (λ e. (subst (λ (x : Ending). Ends cycle budget d.cycles x (standing r)) e d.ends).1)

  -- no more of them than its budget
  pub count_within : (run_over cycle budget store main local s).answer.count ≤ budget
  count_within =
      let r : Outcome Finished = run_from budget 0 cycle m in
      let d = done law budget 0 m in
      let c = d.counted in
      let h = ends_within cycle budget d.cycles r.answer.ending (standing r) d.ends in
      by_checks (λ (x : Outcome Finished). x.answer.count ≤ budget) (λ k less. omega arith) (omega arith)

  -- a refusal's number and field are bytes
  pub run_small : Small (run_over cycle budget store main local s).answer.ending
  run_small =
      let r : Outcome Finished = run_from budget 0 cycle m in
      let d = done law budget 0 m in
      by_checks (λ (x : Outcome Finished). Small x.answer.ending) (λ r small. small) (ending_small law budget d.cycles r.answer.ending (standing r) d.ends)

-- ---- exactly when a run is refused by 1 or 22: no cycle of it gives either

-- 1 or 22
abbrev AtOnce : Refusal → Type 0
AtOnce r = (refusal_number r ≡ 1) ⊎ (refusal_number r ≡ 22)

no_cycle : {store : List ℕ} {cycle : Cycle} → Lawful store cycle → (m : Machine) (r : Refusal) → AtOnce r → Right store m → refusal_in (cycle m.main m.local m.state).answer ≡ Some r → ⊥
no_cycle law m r (inl one) right e = law.never_1 m right r e one
no_cycle law m r (inr last) right e = law.never_22 m r e last

no_ending : {store : List ℕ} {cycle : Cycle} → Lawful store cycle → (budget k : ℕ) (r : Refusal) → AtOnce r → (ending : Ending) (x : Machine) → Right store x → Ends cycle budget k ending x → refusal_by ending ≡ Some r → ⊥
no_ending law budget k r which Spent x right ends e = some_not_none (sym e)
no_ending law budget k r which Stopped x right ends e = some_not_none (sym e)
no_ending law budget k r which (Refused q) x right ends e =
    no_cycle law x r which right (ap (λ (o : Outcome Cycled). refusal_in o.answer) (sym ends.1) ∙ e)

no_cycles : {store : List ℕ} {cycle : Cycle} → Lawful store cycle → (budget : ℕ) (r : Refusal) → AtOnce r → (m : Machine) → Right store m → refusal_by (run_from budget 0 cycle m).answer.ending ≡ Some r → ⊥
no_cycles {store} {cycle} law budget r which m right e =
    let x : Outcome Finished = run_from budget 0 cycle m in
    let d = done law budget 0 m in
    no_ending law budget d.cycles r which x.answer.ending (standing x) (goes_right law d.goes right) d.ends e

pub run_exactly : {store : List ℕ} {cycle : Cycle} → Lawful store cycle → (budget : ℕ) (main local : List ℕ) (s : State) (r : Refusal) → (refusal_number r ≡ 1) ⊎ (refusal_number r ≡ 22)
    → (refusal_by (run_over cycle budget store main local s).answer.ending ≡ Some r) ↔ Given r (run_checks (length store) (length main) (length local) budget)
unfolding run_over
run_exactly {store} {cycle} law budget main local s r which = (to (first cs) refl, back)
  where
    cs : List (Check Refusal)
    cs = run_checks (length store) (length main) (length local) budget

    to : (k : Option Refusal) → first cs ≡ k → refusal_by (run_by k budget cycle main local s).answer.ending ≡ Some r → Given r cs
    to None none e = absurd (no_cycles law budget r which (machine s main local) (first_none cs none).0 e)
    to (Some q) is e = first_given cs (is ∙ e)

    back : Given r cs → refusal_by (run_by (first cs) budget cycle main local s).answer.ending ≡ Some r
    back g = ap (λ (k : Option Refusal). refusal_by (run_by k budget cycle main local s).answer.ending) (given_first cs r g)

-- ---- no second answer fits, nor a second storage. The promise names no correction, so the run by table is the run by rule

pub refusal_sole : (κs : _) (args : _) (r q : Option Refusal) (x y : _) → refusal.Post κs args r x → refusal.Post κs args q y → r ≡ q
refusal_sole κs args r q x y a b = sole a b

pub run_in_sole : (κs : _) (args : _) (r q : Finished) (x y : _) → run_in_reads.Post κs args r x → run_in_reads.Post κs args q y → outcome r x.1.1.1.0.now x.1.1.1.1.0.now ≡ outcome q y.1.1.1.0.now y.1.1.1.1.0.now
run_in_sole κs args r q x y a b = sole a b

pub run_sole : (κs : _) (args : _) (r q : Finished) (x y : _) → run.Post κs args r x → run.Post κs args q y → outcome r x.1.1.0.now x.1.1.1.0.now ≡ outcome q y.1.1.0.now y.1.1.1.0.now
run_sole κs args r q x y a b = sole a b

pub one_sole : (κs : _) (args : _) (r q : Cycled) (x y : _) → one.Post κs args r x → one.Post κs args q y → outcome r x.1.1.1.0.now x.1.1.1.1.0.now ≡ outcome q y.1.1.1.0.now y.1.1.1.1.0.now
one_sole κs args r q x y a b = sole a b

-- ---- what the statements of specs/Divided.antt ask of a run is what the contract promises, as the prover reads it

pub run_promises : (κs : _) (args : _) (r : Finished) (x : _) → run_in_reads.Post κs args r x
    → outcome r x.1.1.1.0.now x.1.1.1.1.0.now ≡ run_in args.1.1.1.1.1.1.0 args.0 args.1.0 args.1.1.0.now args.1.1.1.0.now args.1.1.1.1.0.now args.1.1.1.1.1.0
run_promises κs args r x promised = promised
