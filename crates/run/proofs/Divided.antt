-- Budgets may be divided. Assumes nothing.
use Prim.Native.Nat.{ℕ, zero, suc, ◌+◌, ◌<◌, ◌≤◌}
use mathlib.Core.Path.{◌≡◌, refl, sym, ap, subst, ◌∙◌}
use mathlib.Core.List.{List}
use mathlib.Core.Bool.{cond}
use mathlib.Core.Logic.{◌⊎◌, inl, inr}
use native.Mathlib.Nat.{add-zero, zero-lt-suc}
use native.Mathlib.Omega.{arith}
use borrow.Author.Tests.{ne_eqb}
use lib.Dec.{eqb}
use Rattle.digits.specs.declared.refusal.Refusal.TheVariants as R
use Rattle.digits.proofs.Truth.{zero_one, either_way}
use Rattle.machine.specs.Cycle.{Outcome, outcome, cycle_in}
use Rattle.machine.specs.declared.Cycled.{Cycled}
use Rattle.machine.specs.declared.Cycled.TheVariants as C
use Rattle.run.specs.Run.{Cycle, ended, onward, cycles_of, cycle_by}
use Rattle.run.specs.Divided.{BudgetsDivide}
use Rattle.run.specs.declared.Ending.{Ending}
use Rattle.run.specs.declared.Ending.TheVariants.{Stopped, Refused, Spent}
use Rattle.run.specs.declared.Finished.{Finished}
use Rattle.run.proofs.Runs.{spent, turn}
use Rattle.run.proofs.Goes.{Machine, machine, here, join, Wrong, Right, Lawful, lawful, goes_right, Ends, run_from, ends, ends_later, standing, DoneBy, done}
use Rattle.run.proofs.Promises.{run_at, refused_by1, wrong_refused, right_begins, by_sizes}

-- the answer that two runs make together
abbrev together : ℕ → Outcome Finished → Outcome Finished → Outcome Finished
together b first second =
    ended (cond (eqb b 0) first.answer.ending second.answer.ending) second.answer.state (first.answer.count + second.answer.count) second.main second.local

-- a run that stopped or was refused did so within its budget, and does so again within any other
comes_again : (cycle : Cycle) (budget n : ℕ) (ending : Ending) (x : Machine) → (ending ≡ Spent → ⊥) → Ends cycle budget n ending x
    → (n < budget) × ((more k : ℕ) → k < more → Ends cycle more k ending x)
comes_again cycle budget n Spent x other e = absurd (other refl)
comes_again cycle budget n Stopped x other (h, r) = (h, λ more k less. (less, r))
comes_again cycle budget n (Refused q) x other (h, r) = (h, λ more k less. (less, r))

-- ---- the cycles alone: r is the run of the first budget

module _ (cycle : Cycle) (a b : ℕ) (m : Machine) (r : Outcome Finished) (d : DoneBy cycle a 0 m r) where
  -- it spent its budget: the cycles of q, the second run, follow its own
  follows : (q : Outcome Finished) → DoneBy cycle b 0 (standing r) q → r.answer.ending ≡ Spent
      → run_from (a + b) 0 cycle m ≡ ended q.answer.ending q.answer.state (r.answer.count + q.answer.count) q.main q.local
  follows q f e =
      let all : d.cycles ≡ a = subst (λ (x : Ending). Ends cycle a d.cycles x (standing r)) e d.ends in
      let last = ends_later cycle b f.cycles q.answer.ending (standing q) f.ends d.cycles (a + b) (d.cycles + f.cycles) (omega arith) refl in
      let cr = d.counted in
      let cq = f.counted in
      let c : d.cycles + f.cycles ≡ r.answer.count + q.answer.count = omega arith in
      ends (join d.goes f.goes) (a + b) q.answer.ending last ∙ ap (λ (n : ℕ). ended q.answer.ending q.answer.state n q.main q.local) c

  module _ (other : r.answer.ending ≡ Spent → ⊥) where
    -- it stopped, or was refused: so is the second at once, at the same word
    at_once : 0 < b → run_from b 0 cycle (standing r) ≡ ended r.answer.ending r.answer.state 0 r.main r.local
    at_once h = ends here b r.answer.ending ((comes_again cycle a d.cycles r.answer.ending (standing r) other d.ends).1 b 0 h)

    -- and the whole where the first was
    no_further : run_from (a + b) 0 cycle m ≡ r
    no_further =
        let (h, later) = comes_again cycle a d.cycles r.answer.ending (standing r) other d.ends in
        let c = d.counted in
        let n : d.cycles ≡ r.answer.count = omega arith in
        ends d.goes (a + b) r.answer.ending (later (a + b) d.cycles (omega arith)) ∙ ap (λ (k : ℕ). ended r.answer.ending r.answer.state k r.main r.local) n

spent_or_not : (e : Ending) → (e ≡ Spent) ⊎ (e ≡ Spent → ⊥)
spent_or_not Spent = inl refl
spent_or_not Stopped = inr (λ z. zero_one cc)
spent_or_not (Refused r) = inr (λ z. zero_one cc)

-- a second run that ran no cycle from where r stood, and whose ending does not count or is r's
adds_nothing : (b : ℕ) (r q : Outcome Finished) (e : Ending) → q ≡ ended e r.answer.state 0 r.main r.local → cond (eqb b 0) r.answer.ending e ≡ r.answer.ending → together b r q ≡ r
adds_nothing b r q e none same = ap (together b r) none ∙ λ i. ended (same i) r.answer.state (add-zero r.answer.count i) r.main r.local

-- both together are the whole
in_all : {store : List ℕ} {cycle : Cycle} → Lawful store cycle → (a b : ℕ) (m : Machine) → together b (run_from a 0 cycle m) (run_from b 0 cycle (standing (run_from a 0 cycle m))) ≡ run_from (a + b) 0 cycle m
in_all {store} {cycle} law a zero m =
    let r : Outcome Finished = run_from a 0 cycle m in
    adds_nothing 0 r (run_from 0 0 cycle (standing r)) Spent (spent cycle r.main r.local r.answer.state 0) refl
    ∙ ap (λ (n : ℕ). run_from n 0 cycle m) (sym (add-zero a))
in_all {store} {cycle} law a (suc b) m = by (spent_or_not r.answer.ending)
  where
    r : Outcome Finished
    r = run_from a 0 cycle m

    q : Outcome Finished
    q = run_from (suc b) 0 cycle (standing r)

    by : (r.answer.ending ≡ Spent) ⊎ (r.answer.ending ≡ Spent → ⊥) → together (suc b) r q ≡ run_from (a + suc b) 0 cycle m
    by (inl e) =
        rw (ne_eqb (suc b) 0 (λ z. omega arith)) (sym (follows cycle a (suc b) m r (done law a 0 m) q (done law (suc b) 0 (standing r)) e))
    by (inr other) =
        adds_nothing (suc b) r q r.answer.ending (at_once cycle a (suc b) m r (done law a 0 m) other (zero-lt-suc b)) (either_way (eqb (suc b) 0) r.answer.ending)
        ∙ sym (no_further cycle a (suc b) m r (done law a 0 m) other)

-- ---- with 1 and 22

module _ {store : List ℕ} {cycle : Cycle} (law : Lawful store cycle) (a b : ℕ) (m : Machine) (most : a + b ≤ 1000000) where
  -- r and the run of b from where it ended are the whole; and where r stopped or was refused, so is the run of b
  abbrev Divides : Outcome Finished → Type 0
  Divides r =
      (together b r (run_at cycle b store (standing r)) ≡ run_at cycle (a + b) store m)
      × ((r.answer.ending ≡ Spent → ⊥) → 0 < b → run_at cycle b store (standing r) ≡ ended r.answer.ending r.answer.state 0 r.main r.local)

  divides : Divides (run_at cycle a store m)
  divides = by_sizes cycle store m a (omega arith) Divides wrong right
    where
      wrong : Wrong store m → Divides (refused_by1 m)
      wrong e =
          let refused = wrong_refused cycle store m e in
          (adds_nothing b (refused_by1 m) (run_at cycle b store m) (Refused R.Size) (sym (refused b)) (either_way (eqb b 0) (Refused R.Size)) ∙ refused (a + b), λ other some. sym (refused b))

      right : Right store m → Divides (run_from a 0 cycle m)
      right e =
          let r : Outcome Finished = run_from a 0 cycle m in
          let d = done law a 0 m in
          let second = sym (right_begins cycle store (standing r) (goes_right law d.goes e) b (omega arith)) in
          (ap (together b r) second ∙ in_all law a b m ∙ right_begins cycle store m e (a + b) most, λ other some. second ∙ at_once cycle a b m r d other some)

pub divided : BudgetsDivide
divided fence reading a b store main local s first second whole most f g w =
    record {
      state = ap (λ (z : Outcome Finished). z.answer.state) e;
      in_main = ap (λ (z : Outcome Finished). z.main) e;
      in_local = ap (λ (z : Outcome Finished). z.local) e;
      count = ap (λ (z : Outcome Finished). z.answer.count) e;
      ending = ap (λ (z : Outcome Finished). z.answer.ending) e;
      again = λ other some. g ∙ d.1 other (omega (arith, some));
    }
  where
    law : Lawful store (cycle_in fence reading store)
    law = lawful fence reading store

    d : Divides law a b (machine s main local) most first
    d = subst (Divides law a b (machine s main local) most) (sym f) (divides law a b (machine s main local) most)

    e : together b first second ≡ whole
    e = ap (together b first) g ∙ d.0 ∙ sym w

-- ---- a run of one cycle is that cycle, whatever the sizes

abbrev pub once : Cycle → Outcome Cycled → Outcome Finished
once cycle o = onward (cycles_of 0 cycle) o.answer o.main o.local 0

pub one_cycle : {store : List ℕ} {cycle : Cycle} → Lawful store cycle → (m : Machine) → run_at cycle 1 store m ≡ once cycle (cycle m.main m.local m.state)
one_cycle {store} {cycle} law m = by_sizes cycle store m 1 (omega arith) (λ (r : Outcome Finished). r ≡ once cycle (cycle m.main m.local m.state)) wrong right
  where
    wrong : Wrong store m → refused_by1 m ≡ once cycle (cycle m.main m.local m.state)
    wrong e = ap (once cycle) (law.refused_by_1 m e)

    right : Right store m → run_from 1 0 cycle m ≡ once cycle (cycle m.main m.local m.state)
    right e = turn 0 cycle m.main m.local m.state 0 _ _ _ refl

-- and back: what it answered as a cycle is what the cycle answered
one_back : (cycle : Cycle) (r : Cycled) (main local : List ℕ) → let z : Outcome Finished = once cycle (outcome r main local) in
    outcome (cycle_by z.answer.ending z.answer.state) z.main z.local ≡ outcome r main local
one_back cycle (C.Ran t) main local = ap (λ (z : Outcome Finished). outcome (cycle_by z.answer.ending z.answer.state) z.main z.local) (spent cycle main local t 1)
one_back cycle (C.Stopped t) main local = refl
one_back cycle (C.Refused t r) main local = refl

pub one_is : {store : List ℕ} {cycle : Cycle} → Lawful store cycle → (m : Machine) (f : Finished) (main local : List ℕ) → outcome f main local ≡ run_at cycle 1 store m
    → outcome (cycle_by f.ending f.state) main local ≡ cycle m.main m.local m.state
one_is {store} {cycle} law m f main local e =
    let o : Outcome Cycled = cycle m.main m.local m.state in
    ap (λ (z : Outcome Finished). outcome (cycle_by z.answer.ending z.answer.state) z.main z.local) (e ∙ one_cycle law m) ∙ one_back cycle o.answer o.main o.local
