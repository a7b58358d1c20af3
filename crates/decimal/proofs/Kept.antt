-- An entry keeps its promise: what any of them answers, from how its run ends; and the decimal entry. Assumes nothing.
use Prim.Native.Nat.{ℕ, zero, suc, ◌+◌, ◌*◌, ◌^◌, ◌<◌, ◌≤◌}
use mathlib.Core.Path.{◌≡◌, refl, sym, ap, subst, ◌∙◌}
use mathlib.Core.List.{List}
use mathlib.Core.Bool.{Bool, true, false, cond}
use mathlib.Core.Logic.{◌↔◌}
use native.Mathlib.Omega.{arith}
use borrow.Author.Tests.{eq-eqb}
use lib.Dec.{eqb}
use lib.ListN.{length}
use Rattle.std.specs.Prelude.{Option, Some, None}
use Rattle.digits.specs.Bits.{one, bit}
use Rattle.digits.specs.Refusal.{Check, first, answer, Given}
use Rattle.digits.specs.declared.refusal.Refusal.{Refusal}
use Rattle.digits.proofs.Refusals.{exactly}
use Rattle.digits.proofs.Truth.{zero_one, both}
use Rattle.storage.specs.declared.Fence.{Fence}
use Rattle.machine.specs.Cycle.{Outcome, outcome}
use Rattle.machine.specs.declared.State.{State}
use Rattle.codes.specs.declared.Reading.TheVariants.{Basic}
use Rattle.run.specs.Run.{ended, run_in}
use Rattle.run.specs.declared.Finished.{Finished}
use Rattle.run.specs.declared.Ending.TheVariants.{Stopped}
use Rattle.run.proofs.Goes.{machine, Halts, Right, lawful, goes_right}
use Rattle.decimal.specs.Value.{value, decimal_field}
use Rattle.decimal.specs.Program.{shipped}
use Rattle.decimal.specs.Entry.{start, bound, run_for, answered_at, from_run, entry_by, SUMMED}
use Rattle.decimal.specs.Promise.{until_bad, cycles_in, exact_sum, Sums, Bad, Untouched, both_fields, Accepted, Keeps, PromiseBy}
use Rattle.decimal.specs.declared.Added.{Added}
use Rattle.decimal.specs.declared.Added.TheVariants.{Summed, BadDigit, Refused}
use Rattle.decimal.proofs.Steps.{basic, idle, run_stops}
use Rattle.decimal.proofs.Places.{Place, Reaches, Refuses}
use Rattle.decimal.proofs.Places as P
use Rattle.decimal.proofs.Pass2.{Passing}
use Rattle.decimal.proofs.Checks.{Fit, no_bytes}
use Rattle.decimal.proofs.Fields.{sound_field, value_lt, remainder, quotient}
use Rattle.decimal.proofs.Whole.{right, at_end, adds, sum_stands, spots, until_le}
use Rattle.decimal.proofs.Plain.{stop_14}

-- ---- any entry

-- its run comes to a stop, within the bound, and of the answer and the storages holds P
pub record Finishes (done : ℕ) (run : Outcome Finished) (n : ℕ) (P : Added → List ℕ → List ℕ → Type 0) : Type 0 where
  pub x : State
  pub count : ℕ
  pub main' : List ℕ
  pub local' : List ℕ
  pub is : run ≡ ended Stopped x count main' local'
  pub few : count ≤ bound n
  pub holds : P (answered_at done (record { ending = Stopped; state = x; count = count })) main' local'

never_refused : (done : ℕ) (f : Finished) (why : Refusal) → answered_at done f ≡ Refused why → ⊥
never_refused done f why = by (eqb f.state.wx done)
  where
    by : (t : Bool) → cond t (Summed (bit f.state.s 3) f.count) (BadDigit f.count) ≡ Refused why → ⊥
    by true e = zero_one cc
    by false e = zero_one cc

pub count_in_lem : (done : ℕ) (f : Finished) → cycles_in (answered_at done f) ≡ f.count
count_in_lem done f = by (eqb f.state.wx done)
  where
    by : (t : Bool) → cycles_in (cond t (Summed (bit f.state.s 3) f.count) (BadDigit f.count)) ≡ f.count
    by true = refl
    by false = refl

module _ (done : ℕ) (checks : List (Check Refusal)) (run : Outcome Finished) (main local : List ℕ) (n : ℕ) where
  abbrev comes : Option Refusal → Outcome Added
  comes k = answer k (λ (why : Refusal). outcome (Refused why) main local) (from_run done run)

  the_answer : (k : Option Refusal) → (comes k).answer ≡ answer k Refused (answered_at done run.answer)
  the_answer None = refl
  the_answer (Some why) = refl

  refused_exactly : (why : Refusal) → ((comes (first checks)).answer ≡ Refused why) ↔ Given why checks
  refused_exactly why =
      let e = exactly (record { which = λ q r p. cc; apart = never_refused done }) run.answer checks why in
      (λ p. e.0 (sym (the_answer (first checks)) ∙ p), λ g. the_answer (first checks) ∙ e.1 g)

  refused_untouched : (k : Option Refusal) (why : Refusal) → (comes k).answer ≡ Refused why → Untouched main local (comes k).main (comes k).local
  refused_untouched None why e = absurd (never_refused done run.answer why e)
  refused_untouched (Some k) why e = record { main_kept = refl; local_kept = refl }

  finished : (P : Added → List ℕ → List ℕ → Type 0) → first checks ≡ None → Finishes done run n P → let o = comes (first checks) in P o.answer o.main o.local
  finished P e f =
      subst (λ (o : Outcome Added). P o.answer o.main o.local) (ap (from_run done) (sym f.is) ∙ ap comes (sym e)) f.holds

  few : (k : Option Refusal) → first checks ≡ k → (first checks ≡ None → run.answer.count ≤ bound n) → cycles_in (comes (first checks)).answer ≤ bound n
  few None e h = rw (e, count_in_lem done run.answer) (h e)
  few (Some k) e h = rw e (omega arith)

  module _ (good : Bool) (Good Bad : Added → List ℕ → List ℕ → Type 0) (sums : Accepted checks → good ≡ true → Finishes done run n Good)
      (bad : Accepted checks → good ≡ false → Finishes done run n Bad) where
    -- of the run, whichever way it ends
    either_end : (P : Finished → Type 0) → ((x : State) (count : ℕ) → count ≤ bound n → P (record { ending = Stopped; state = x; count = count })) → Accepted checks → P run.answer
    either_end P h e = by good refl
      where
        of : {Q : Added → List ℕ → List ℕ → Type 0} → Finishes done run n Q → P run.answer
        of f = subst (λ (r : Outcome Finished). P r.answer) (sym f.is) (h f.x f.count f.few)

        by : (g : Bool) → good ≡ g → P run.answer
        by true g = of (sums e g)
        by false g = of (bad e g)

    pub keeps : let o = entry_by done checks run main local in Keeps checks run good Good Bad main local n o.answer o.main o.local
    keeps =
        record {
          refused = refused_exactly;
          untouched = refused_untouched (first checks);
          sums = λ e g. finished Good e (sums e g);
          bad = λ e g. finished Bad e (bad e g);
          stops = either_end (λ (f : Finished). f.ending ≡ Stopped) (λ x k less. refl);
          few = few (first checks) refl (either_end (λ (f : Finished). f.count ≤ bound n) (λ x k less. less));
        }

  -- past the checks the entry's answer is its run's
  pub accepts : first checks ≡ None → from_run done run ≡ entry_by done checks run main local
  accepts e = ap comes (sym e)

-- a program that comes to its stop, or to another
module _ (fence : Fence) (store main local : List ℕ) (s : State) (n done count : ℕ) (right : Right store (machine s main local)) (size : n ≤ 16) (less : count < bound n) where
  abbrev its_run : Outcome Finished
  its_run = run_in (bound n) fence Basic store main local s

  pub comes_to : (q : Place) → q.wx ≡ done → Reaches fence store local count (machine s main local) q → ((x : State) → Right store (machine x q.main local) → Halts (basic fence store) (machine (idle q.wx x) q.main local))
      → (P : Added → List ℕ → List ℕ → Type 0) → ((x : State) → q.Known x → P (Summed (bit x.s 3) count) q.main local) → Finishes done its_run n P
  comes_to q e r halts P h =
      record {
        x = idle q.wx r.x;
        count = count;
        main' = q.main;
        local' = local;
        is = run_stops fence store (bound n) count s main local (machine (idle q.wx r.x) q.main local) right (omega (arith, size)) r.goes (halts r.x (goes_right (lawful fence Basic store) r.goes right)) less;
        few = omega (arith, less);
        holds = subst (λ (t : Bool). P (cond t (Summed (bit r.x.s 3) count) (BadDigit count)) q.main local) (sym (eq-eqb q.wx done e)) (h r.x r.known);
      }

  pub stops_short : Refuses fence store local done count (machine s main local) main → Finishes done its_run n (Bad count main local)
  stops_short r =
      record {
        x = r.x;
        count = count;
        main' = main;
        local' = local;
        is = run_stops fence store (bound n) count s main local (machine r.x main local) right (omega (arith, size)) r.goes r.stops less;
        few = omega (arith, less);
        holds = record { bad = rw r.apart; main_kept = refl; local_kept = refl };
      }

-- ---- the decimal entry

module _ (fence : Fence) (main local : List ℕ) (a b k : ℕ) (c : Bool) (f : Fit fence (length main) (length local) a b (suc k)) where
  sums_end : both_fields main a b (suc k) ≡ true → Finishes SUMMED (run_for fence main local a b (suc k) c) (suc k) (Sums main local a b (suc k) c)
  sums_end d =
      let (da, db) = both (decimal_field main a (suc k)) (decimal_field main b (suc k)) d in
      let end : Passing = at_end fence main local a b k c f da db in
      let st = sum_stands fence main local a b k c f da db in
      let v = value_lt end.main a (suc k) st.digits in
      let is : value end.main a (suc k) + 100 ^ suc k * one end.carry ≡ exact_sum main a b (suc k) c = omega (arith, st.sum) in
      comes_to fence shipped main local (start a b (suc k) c) (suc k) SUMMED (14 * suc k + 4) (right fence main local a b k c f) f.few (omega arith) (P.ended SUMMED end.main end.carry) refl (adds fence main local a b k c f da db) (stop_14 fence local end.main)
      (Sums main local a b (suc k) c)
      (λ x carry.
      record {
        out = end.carry;
        summed = ap (λ (on : Bool). Summed on (14 * suc k + 4)) carry;
        remainder = remainder (value end.main a (suc k)) (100 ^ suc k) (exact_sum main a b (suc k) c) end.carry v is;
        quotient = quotient (value end.main a (suc k)) (100 ^ suc k) (exact_sum main a b (suc k) c) end.carry v is;
        decimal = sound_field end.main a (suc k) st.digits;
        size = st.size;
        others = st.others;
        local_kept = refl;
      })

  bad_end : both_fields main a b (suc k) ≡ false → Finishes SUMMED (run_for fence main local a b (suc k) c) (suc k) (Bad (2 + until_bad main a b (suc k)) main local)
  bad_end d =
      stops_short fence shipped main local (start a b (suc k) c) (suc k) SUMMED (2 + until_bad main a b (suc k)) (right fence main local a b k c f) f.few (omega (arith, until_le main (suc k) a b)) (spots fence main local a b k c f d)

-- in a fence, by any list of checks past which the fields fit
module _ (checks : List (Check Refusal)) (fence : Fence) (main local : List ℕ) where
  kept : (a b n : ℕ) (c : Bool) → (Accepted checks → Fit fence (length main) (length local) a b n)
      → let o = entry_by SUMMED checks (run_for fence main local a b n c) main local in PromiseBy checks fence main local a b n c o.answer o.main o.local
  kept a b zero c fit =
      keeps SUMMED checks (run_for fence main local a b 0 c) main local 0 (both_fields main a b 0) (Sums main local a b 0 c) (Bad (2 + until_bad main a b 0) main local)
      (λ e d. absurd (no_bytes (fit e))) (λ e d. absurd (no_bytes (fit e)))
  kept a b (suc k) c fit =
      keeps SUMMED checks (run_for fence main local a b (suc k) c) main local (suc k) (both_fields main a b (suc k)) (Sums main local a b (suc k) c) (Bad (2 + until_bad main a b (suc k)) main local)
      (λ e. sums_end fence main local a b k c (fit e)) (λ e. bad_end fence main local a b k c (fit e))

  pub promised : (a b n : ℕ) (c : Bool) → (Accepted checks → Fit fence (length main) (length local) a b n) → (r : Added) (m l : List ℕ)
      → outcome r m l ≡ entry_by SUMMED checks (run_for fence main local a b n c) main local → PromiseBy checks fence main local a b n c r m l
  promised a b n c fit r m l e = subst (λ (o : Outcome Added). PromiseBy checks fence main local a b n c o.answer o.main o.local) (sym e) (kept a b n c fit)
