-- Single cycles in a row, and the run that makes them: what any program's proof stands on. Assumes nothing.
use Prim.Native.Nat.{ℕ, zero, suc, ◌+◌, ◌-◌, ◌<◌}
use mathlib.Core.Path.{◌≡◌, refl, sym, ap, subst, ◌∙◌}
use mathlib.Core.List.{List}
use mathlib.Core.Bool.{true, false}
use native.Mathlib.Nat.{add-zero, suc-add, zero-add, zero-lt-suc}
use native.Mathlib.Omega.{arith}
use lib.ListN.{length}
use Rattle.std.specs.Prelude.{Some}
use Rattle.digits.specs.Refusal.{refusal_number, refusal_field}
use Rattle.digits.specs.Sizes.{sizes_wrong}
use Rattle.digits.specs.declared.refusal.Refusal.{Refusal}
use Rattle.digits.specs.declared.refusal.Refusal.TheVariants as R
use Rattle.codes.specs.declared.Reading.{Reading}
use Rattle.storage.specs.declared.Fence.{Fence}
use Rattle.machine.specs.Cycle.{Outcome, outcome, cycle_in, refusal_in}
use Rattle.machine.proofs.Promises.{Kept, SameSizes}
use Rattle.machine.proofs.Promises as known
use Rattle.machine.specs.declared.State.{State}
use Rattle.machine.specs.declared.Cycled.{Cycled}
use Rattle.machine.specs.declared.Cycled.TheVariants as C
use Rattle.run.specs.Run.{Cycle, ended, onward, cycles_of}
use Rattle.run.specs.declared.Ending.{Ending}
use Rattle.run.specs.declared.Ending.TheVariants.{Stopped, Refused, Spent}
use Rattle.run.specs.declared.Finished.{Finished}
use Rattle.run.proofs.Runs.{spent, turn}

-- a state with both storages
pub record Machine : Type 0 where
  pub state : State
  pub main : List ℕ
  pub local : List ℕ

abbrev pub machine : State → List ℕ → List ℕ → Machine
machine state main local = record { state = state; main = main; local = local }

-- what a cycle answers in a machine, and leaves
abbrev pub Answers : Cycle → Machine → Cycled → Machine → Type 0
Answers cycle m r x = outcome r x.main x.local ≡ cycle m.main m.local m.state

-- one cycle leads from a machine to another, or stops there
abbrev pub Leads : Cycle → Machine → Machine → Type 0
Leads cycle m x = Answers cycle m (C.Ran x.state) x

abbrev pub Halts : Cycle → Machine → Type 0
Halts cycle m = Answers cycle m (C.Stopped m.state) m

-- n cycles from one machine to another, each of which ran
pub data Goes (cycle : Cycle) : ℕ → Machine → Machine → Type 0 where
  here : {m : Machine} → Goes cycle 0 m m
  next : {n : ℕ} {m x z : Machine} → Leads cycle m x → Goes cycle n x z → Goes cycle (suc n) m z

pub join : {cycle : Cycle} {k n : ℕ} {m x z : Machine} → Goes cycle k m x → Goes cycle n x z → Goes cycle (k + n) m z
join here g = rw zero-add g
join (next a h) g = rw suc-add (next a (join h g))

-- no cycles lead nowhere
pub goes_none : {cycle : Cycle} {n : ℕ} {m x : Machine} → Goes cycle n m x → n ≡ 0 → x ≡ m
goes_none here e = refl
goes_none (next a g) e = absurd (omega arith)

-- what each of them keeps, all keep
pub goes_keep : {cycle : Cycle} {n : ℕ} {m x : Machine} (P : Machine → Type 0) → ((y z : Machine) → Leads cycle y z → P y → P z)
    → Goes cycle n m x → P m → P x
goes_keep P keeps here p = p
goes_keep P keeps (next {m = m} {x = x} a g) p = goes_keep P keeps g (keeps m x a p)

-- the sizes are wrong; they are right
abbrev pub Wrong : List ℕ → Machine → Type 0
Wrong store m = sizes_wrong (length store) (length m.main) (length m.local) ≡ true

abbrev pub Right : List ℕ → Machine → Type 0
Right store m = sizes_wrong (length store) (length m.main) (length m.local) ≡ false

-- ---- what is asked of a cycle over a store

pub record Lawful (store : List ℕ) (cycle : Cycle) : Type 0 where
  -- a stop and a refusal leave everything
  pub stop_keeps : (main local : List ℕ) (s t : State) → (cycle main local s).answer ≡ C.Stopped t → Kept main local s t (cycle main local s)
  pub refusal_keeps : (main local : List ℕ) (s t : State) (r : Refusal) → (cycle main local s).answer ≡ C.Refused t r → Kept main local s t (cycle main local s)
  -- the storages keep their sizes
  pub sizes_stay : (main local : List ℕ) (s : State) → SameSizes main local (cycle main local s)
  -- 1 is given for wrong sizes alone, and 22 never; a refusal's number and field are bytes
  pub refused_by_1 : (m : Machine) → Wrong store m → outcome (C.Refused m.state R.Size) m.main m.local ≡ cycle m.main m.local m.state
  pub never_1 : (m : Machine) → Right store m → (r : Refusal) → refusal_in (cycle m.main m.local m.state).answer ≡ Some r → refusal_number r ≡ 1 → ⊥
  pub never_22 : (m : Machine) (r : Refusal) → refusal_in (cycle m.main m.local m.state).answer ≡ Some r → refusal_number r ≡ 22 → ⊥
  pub refusal_small : (main local : List ℕ) (s t : State) (r : Refusal) → (cycle main local s).answer ≡ C.Refused t r → (refusal_number r < 256) × (refusal_field r < 256)

-- the machine's is such a one, in any fence and under any reading
pub lawful : (fence : Fence) (reading : Reading) (store : List ℕ) → Lawful store (cycle_in fence reading store)
lawful fence reading store =
    record {
      stop_keeps = known.stop_keeps fence reading store;
      refusal_keeps = known.refusal_keeps fence reading store;
      sizes_stay = known.sizes_stay fence reading store;
      refused_by_1 = λ m. known.refused_by_1 fence reading store m.main m.local m.state;
      never_1 = λ m. known.never_1 fence reading store m.main m.local m.state;
      never_22 = λ m. known.never_22 fence reading store m.main m.local m.state;
      refusal_small = known.refusal_small fence reading store;
    }

-- right sizes stay right
pub goes_right : {store : List ℕ} {cycle : Cycle} {n : ℕ} {m x : Machine} → Lawful store cycle → Goes cycle n m x → Right store m → Right store x
goes_right {store} {cycle} law = goes_keep (Right store) still
  where
    still : (y z : Machine) → Leads cycle y z → Right store y → Right store z
    still y z a right =
        let same = law.sizes_stay y.main y.local y.state in
        (λ i. sizes_wrong (length store) ((ap (λ (o : Outcome Cycled). length o.main) a ∙ same.of_main) i) ((ap (λ (o : Outcome Cycled). length o.local) a ∙ same.of_local) i)) ∙ right

-- what the last cycle answered, or that the budget is spent
abbrev pub Ends : Cycle → ℕ → ℕ → Ending → Machine → Type 0
Ends cycle budget n Spent x = n ≡ budget
Ends cycle budget n Stopped x = (n < budget) × Halts cycle x
Ends cycle budget n (Refused r) x = (n < budget) × Answers cycle x (C.Refused x.state r) x

-- ---- from the cycles to the run

-- so many cycles of the budget are spent, and counted
pub goes_on_lem : {cycle : Cycle} {n : ℕ} {m x : Machine} → Goes cycle n m x → (budget k : ℕ)
    → cycles_of (n + budget) cycle m.main m.local m.state k ≡ cycles_of budget cycle x.main x.local x.state (k + n)
goes_on_lem {cycle} {n} {m} {x} here budget k = rw (zero-add, add-zero)
goes_on_lem {cycle} {n} {m} {x} (next {n = i} {x = y} a g) budget k =
    let e : suc i + budget ≡ suc (i + budget) = omega arith in
    let c : k + 1 + i ≡ k + suc i = omega arith in
    ap (λ (j : ℕ). cycles_of j cycle m.main m.local m.state k) e
    ∙ turn (i + budget) cycle m.main m.local m.state k (C.Ran y.state) y.main y.local a
    ∙ goes_on_lem g budget (k + 1)
    ∙ ap (λ (j : ℕ). cycles_of budget cycle x.main x.local x.state j) c

-- the run from a machine on, after k cycles
abbrev pub run_from : ℕ → ℕ → Cycle → Machine → Outcome Finished
run_from budget k cycle m = cycles_of budget cycle m.main m.local m.state k

-- as long as the budget lasts, what comes next is what the next cycle answers
comes : {cycle : Cycle} {n : ℕ} {m x : Machine} → Goes cycle n m x → (r : Cycled) → Answers cycle x r x → (budget : ℕ) → n < budget
    → run_from budget 0 cycle m ≡ onward (cycles_of (budget - suc n) cycle) r x.main x.local n
comes {cycle} {n} {m} {x} g r a budget h =
    let e : budget ≡ n + suc (budget - suc n) = omega arith in
    let c : 0 + n ≡ n = omega arith in
    ap (λ (j : ℕ). run_from j 0 cycle m) e
    ∙ goes_on_lem g (suc (budget - suc n)) 0
    ∙ turn (budget - suc n) cycle x.main x.local x.state (0 + n) r x.main x.local a
    ∙ ap (λ (j : ℕ). onward (cycles_of (budget - suc n) cycle) r x.main x.local j) c

-- n cycles and an ending are the run
pub ends : {cycle : Cycle} {n : ℕ} {m x : Machine} → Goes cycle n m x → (budget : ℕ) (ending : Ending) → Ends cycle budget n ending x
    → run_from budget 0 cycle m ≡ ended ending x.state n x.main x.local
ends {cycle} {n} {m} {x} g budget Spent e =
    let all : budget ≡ n + 0 = omega arith in
    let c : 0 + n ≡ n = omega arith in
    ap (λ (j : ℕ). run_from j 0 cycle m) all ∙ goes_on_lem g 0 0 ∙ spent cycle x.main x.local x.state (0 + n) ∙ ap (λ (j : ℕ). ended Spent x.state j x.main x.local) c
ends {cycle} {n} {m} {x} g budget Stopped (h, a) = comes g (C.Stopped x.state) a budget h
ends {cycle} {n} {m} {x} g budget (Refused r) (h, a) = comes g (C.Refused x.state r) a budget h

-- ---- from the run to the cycles

-- what a run that ended so has done: n cycles that ran, each from where the last one stood, and then the ending
pub record Done (cycle : Cycle) (budget k : ℕ) (m : Machine) (ending : Ending) (x : Machine) (count : ℕ) : Type 0 where
  pub cycles : ℕ
  pub counted : count ≡ k + cycles
  pub goes : Goes cycle cycles m x
  pub ends : Ends cycle budget cycles ending x

-- nothing done yet, and an answer that leaves everything
at_once : {cycle : Cycle} {budget k : ℕ} {m : Machine} {x : Machine} {ending : Ending} → x ≡ m → Ends cycle budget 0 ending x → Done cycle budget k m ending x k
at_once {cycle} {budget} {k} {m} {x} {ending} e ends =
    record { cycles = 0; counted = sym (add-zero k); goes = subst (λ (z : Machine). Goes cycle 0 m z) (sym e) here; ends = ends }

-- what was left of a run, with the k cycles before it
pub ends_later : (cycle : Cycle) (budget n : ℕ) (ending : Ending) (x : Machine) → Ends cycle budget n ending x
    → (k more all : ℕ) → more ≡ k + budget → all ≡ k + n → Ends cycle more all ending x
ends_later cycle budget n Spent x e k more all m a = omega arith
ends_later cycle budget n Stopped x (h, r) k more all m a = (omega arith, r)
ends_later cycle budget n (Refused q) x (h, r) k more all m a = (omega arith, r)

one_more : {cycle : Cycle} {budget k count : ℕ} {m y x : Machine} {ending : Ending} → Leads cycle m y
    → Done cycle budget (k + 1) y ending x count → Done cycle (suc budget) k m ending x count
one_more {cycle} {budget} {k} {count} {m} {y} {x} {ending} a d =
    record {
      cycles = suc d.cycles;
      counted = d.counted ∙ omega arith;
      goes = next a d.goes;
      ends = ends_later cycle budget d.cycles ending x d.ends 1 (suc budget) (suc d.cycles) (omega arith) (omega arith);
    }

-- where a run stands
abbrev pub standing : Outcome Finished → Machine
standing r = machine r.answer.state r.main r.local

abbrev pub DoneBy : Cycle → ℕ → ℕ → Machine → Outcome Finished → Type 0
DoneBy cycle budget k m r = Done cycle budget k m r.answer.ending (standing r) r.answer.count

module _ {store : List ℕ} {cycle : Cycle} (law : Lawful store cycle) (budget k : ℕ) (m : Machine) (main local : List ℕ) where
  -- an answer that leaves everything leaves the machine where it stood
  same_place : (t : State) (r : Cycled) → outcome r main local ≡ cycle m.main m.local m.state → Kept m.main m.local m.state t (cycle m.main m.local m.state) → machine t main local ≡ m
  same_place t r o kept = λ i. machine (kept.state i) ((ap (λ (z : Outcome Cycled). z.main) o ∙ kept.in_main) i) ((ap (λ (z : Outcome Cycled). z.local) o ∙ kept.in_local) i)

  again : (t : State) (r : Cycled) → outcome r main local ≡ cycle m.main m.local m.state → machine t main local ≡ m → outcome r main local ≡ cycle main local t
  again t r o e = o ∙ ap (λ (z : Machine). cycle z.main z.local z.state) (sym e)

  one_turn : (r : Cycled) → outcome r main local ≡ cycle m.main m.local m.state → ((y : Machine) → DoneBy cycle budget (k + 1) y (run_from budget (k + 1) cycle y))
      → DoneBy cycle (suc budget) k m (onward (cycles_of budget cycle) r main local k)
  one_turn (C.Ran t) o rest = one_more {y = machine t main local} o (rest (machine t main local))
  one_turn (C.Stopped t) o rest =
      let e = same_place t (C.Stopped t) o (law.stop_keeps m.main m.local m.state t (ap (λ (z : Outcome Cycled). z.answer) (sym o))) in
      at_once e (zero-lt-suc budget, again t (C.Stopped t) o e)
  one_turn (C.Refused t r) o rest =
      let e = same_place t (C.Refused t r) o (law.refusal_keeps m.main m.local m.state t r (ap (λ (z : Outcome Cycled). z.answer) (sym o))) in
      at_once e (zero-lt-suc budget, again t (C.Refused t r) o e)

-- "its state and storage are those after that many": every run is that many single cycles, and its ending
pub done : {store : List ℕ} {cycle : Cycle} → Lawful store cycle → (budget k : ℕ) (m : Machine) → DoneBy cycle budget k m (run_from budget k cycle m)
unfolding cycles_of
done law zero k m = at_once refl refl
done {store} {cycle} law (suc budget) k m =
    let o : Outcome Cycled = cycle m.main m.local m.state in
    one_turn law budget k m o.main o.local o.answer refl (done law budget (k + 1))
