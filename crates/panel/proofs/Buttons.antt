-- The single-cycle button and the run button show the same machine. Assumes nothing.
use Prim.Native.Nat.{ℕ, zero, suc, ◌+◌, ◌^◌, ◌<◌, ◌≤◌}
use mathlib.Core.Path.{◌≡◌, refl, sym, ap, subst, ◌∙◌}
use mathlib.Core.List.{List}
use mathlib.Core.Bool.{Bool, true, false, cond}
use native.Mathlib.Nat.{add-zero, zero-add}
use native.Mathlib.Omega.{arith}
use borrow.Author.Tests.{ne_eqb}
use lib.Dec.{eqb, ltb}
use lib.ListN.{length, length-append}
use Rattle.digits.specs.Bits.{one}
use Rattle.digits.specs.Lent.{over}
use Rattle.digits.proofs.Truth.{either_way}
use Rattle.codes.specs.declared.Reading.{Reading}
use Rattle.storage.specs.Storage.{whole}
use Rattle.machine.specs.Cycle.{Outcome, outcome, cycle_of}
use Rattle.machine.specs.declared.State.{State}
use Rattle.machine.specs.declared.Cycled.{Cycled}
use Rattle.machine.specs.declared.Cycled.TheVariants as C
use Rattle.machine.proofs.Promises.{refusal_small}
use Rattle.run.specs.Run.{run_of}
use Rattle.run.specs.Divided.{Divided}
use Rattle.run.specs.declared.Ending.{Ending}
use Rattle.run.specs.declared.Ending.TheVariants as E
use Rattle.run.specs.declared.Finished.{Finished}
use Rattle.run.proofs.Runs.{spent}
use Rattle.run.proofs.Goes.{Machine, machine, lawful, goes_none}
use Rattle.run.proofs.Promises.{run_goes, count_within, Small, run_small}
use Rattle.run.proofs.Divided.{divided, once, one_cycle}
use Rattle.run.proofs.Quiet.{quiet_keeps}
use Rattle.channels.specs.Channels.{record_length, saved, loaded}
use Rattle.channels.proofs.Trips.{state_back}
use Rattle.panel.specs.Answers.{RAN, counted, refused, Called, called, short, answer_cycle, cycled_by, call_by, cycle_call, ending_code, record_after, ran_by, run_call}
use Rattle.panel.proofs.Calls.{run_short, run_else, by_record}
use Rattle.panel.proofs.Promises.{Untouched, run_keeps}
use Rattle.panel.specs.Buttons.{code_in, cycles_in, DividedCalls, CallsDivide, press_cycle, press_run, presses, ran_in, as_ending, Shows, SameMachine, CallsQuiet}

-- ---- the number

code_small : (e : Ending) → Small e → ending_code e < 2 ^ 32
code_small E.Spent h = omega arith
code_small E.Stopped h = omega arith
code_small (E.Refused r) (n, f) = omega arith

cycles_in_lem : (code n : ℕ) → code < 2 ^ 32 → cycles_in (counted code n) ≡ n
cycles_in_lem code n h = omega arith

code_in_lem : (code n : ℕ) → code < 2 ^ 32 → code_in (counted code n) ≡ code
code_in_lem code n h = omega arith

-- ---- the record

length_saved : (s : State) → length (saved s) ≡ record_length
unfolding saved
length_saved s = refl

over_saved : (s t : State) (state : List ℕ) → over (saved t) (over (saved s) state) ≡ over (saved t) state
unfolding saved
over_saved s t state = refl

-- a cycle ran: the record is written
written : (n : ℕ) (s : State) (state : List ℕ) → (n ≡ 0 → ⊥) → record_after n s state ≡ over (saved s) state
written n s state some = rw (ne_eqb n 0 some)

-- a run of n cycles that came to s, and then one of k that came to t
two_records : (n k : ℕ) (s t : State) (state : List ℕ) → (k ≡ 0 → t ≡ s) → record_after k t (record_after n s state) ≡ record_after (n + k) t state
two_records zero k s t state same = rw zero-add
two_records (suc n) zero s t state same =
    written (suc n) s state (λ z. omega arith) ∙ ap (λ (x : State). over (saved x) state) (sym (same refl)) ∙ sym (written (suc n + 0) t state (λ z. omega arith))
two_records (suc n) (suc k) s t state same =
    written (suc k) t _ (λ z. omega arith)
    ∙ ap (over (saved t)) (written (suc n) s state (λ z. omega arith))
    ∙ over_saved s t state
    ∙ sym (written (suc n + suc k) t state (λ z. omega arith))

-- it stays as long as it must be
still_long : (n : ℕ) (s : State) (state : List ℕ) → record_length ≤ length state → record_length ≤ length (record_after n s state)
still_long n s state long = by (eqb n 0)
  where
    by : (none : Bool) → record_length ≤ length (cond none state (over (saved s) state))
    by true = long
    by false = let n = length_saved s in rw length-append (omega arith)

-- and it has the state that the run came to
loaded_after : (budget : ℕ) (reading : Reading) (store main local state : List ℕ) → let r : Outcome Finished = run_of budget reading store main local (loaded state) in
    loaded (record_after r.answer.count r.answer.state state) ≡ r.answer.state
loaded_after budget reading store main local state = by r.answer.count refl
  where
    r : Outcome Finished
    r = run_of budget reading store main local (loaded state)

    by : (n : ℕ) → r.answer.count ≡ n → loaded (record_after n r.answer.state state) ≡ r.answer.state
    by zero e = sym (ap (λ (m : Machine). m.state) (goes_none (run_goes (lawful whole reading store) budget main local (loaded state)) e))
    by (suc n) e = ap loaded (written (suc n) r.answer.state state (λ z. omega arith)) ∙ state_back r.answer.state state

-- ---- the calls

chosen : (z : Bool) (x y : Ending) → cond z (ending_code x) (ending_code y) ≡ ending_code (cond z x y)
chosen true x y = refl
chosen false x y = refl

-- two runs that make up a third, by their calls
from_runs : (b : ℕ) (r q w : Outcome Finished) (state : List ℕ) → Small r.answer.ending → Small q.answer.ending → Small w.answer.ending
    → (q.answer.count ≡ 0 → q.answer.state ≡ r.answer.state) → Divided b r q w
    → DividedCalls b (ran_by r state) (ran_by q (record_after r.answer.count r.answer.state state)) (ran_by w state)
from_runs b r q w state small_r small-q small-w still d =
    let hr = code_small r.answer.ending small_r in
    let hq = code_small q.answer.ending small-q in
    let hw = code_small w.answer.ending small-w in
    record {
      in_state = two_records r.answer.count q.answer.count r.answer.state q.answer.state state still ∙ (λ i. record_after (d.count i) (d.state i) state);
      in_main = d.in_main;
      in_local = d.in_local;
      cycles = (λ i. cycles_in_lem _ r.answer.count hr i + cycles_in_lem _ q.answer.count hq i) ∙ d.count ∙ sym (cycles_in_lem _ w.answer.count hw);
      code =
          (λ i. cond (eqb b 0) (code_in_lem _ r.answer.count hr i) (code_in_lem _ q.answer.count hq i))
          ∙ chosen (eqb b 0) r.answer.ending q.answer.ending
          ∙ ap ending_code d.ending
          ∙ sym (code_in_lem _ w.answer.count hw);
    }

-- three calls that are refused alike
refused_alike : (b : ℕ) (c : Called) → cycles_in c.number ≡ 0 → DividedCalls b c c c
refused_alike b c none = record { in_state = refl; in_main = refl; in_local = refl; cycles = omega arith; code = either_way (eqb b 0) (code_in c.number) }

module _ (a b : ℕ) (reading : Reading) (store : List ℕ) (c : Called) where
  -- the second call, on what the first left, makes up the whole
  abbrev Divide : Called → Called → Type 0
  Divide first whole = DividedCalls b first (press_run b reading store first) whole

  -- by what the second and the whole are
  known : (first second whole : Called) → second ≡ press_run b reading store first → whole ≡ press_run (a + b) reading store c → DividedCalls b first second whole → Divide first (press_run (a + b) reading store c)
  known first second whole is-second is_whole d = subst (Divide first) is_whole (subst (λ (z : Called). DividedCalls b first z whole) is-second d)

pub calls_divide : CallsDivide
calls_divide a b reading store c most =
    by_record reading store main local state a (λ (first : Called). Divide a b reading store c first (press_run (a + b) reading store c)) refused ran
  where
    main : List ℕ
    main = c.main

    local : List ℕ
    local = c.local

    state : List ℕ
    state = c.state

    s : State
    s = loaded state

    r : Outcome Finished
    r = run_of a reading store main local s

    left : List ℕ
    left = record_after r.answer.count r.answer.state state

    q : Outcome Finished
    q = run_of b reading store r.main r.local (loaded left)

    w : Outcome Finished
    w = run_of (a + b) reading store main local s

    refused : length state < record_length → Divide a b reading store c (short main local state) (press_run (a + b) reading store c)
    refused h =
        let first : Called = short main local state in
        known a b reading store c first first first (run_short reading store main local state b _ _ h refl refl) (run_short reading store main local state (a + b) _ _ h refl refl) (refused_alike b first refl)

    ran : record_length ≤ length state → Divide a b reading store c (ran_by r state) (press_run (a + b) reading store c)
    ran h =
        let same = loaded_after a reading store main local state in
        let goes = run_goes (lawful whole reading store) b r.main r.local (loaded left) in
        known a b reading store c (ran_by r state) (ran_by q left) (ran_by w state)
        (run_else reading store r.main r.local left b (still_long r.answer.count r.answer.state state h))
        (run_else reading store main local state (a + b) h)
        (from_runs b r q w state (run_small (lawful whole reading store) a main local s) (run_small (lawful whole reading store) b r.main r.local (loaded left)) (run_small (lawful whole reading store) (a + b) main local s)
        (λ none. ap (λ (m : Machine). m.state) (goes_none goes none) ∙ same)
        (divided whole reading a b store main local s r q w most refl (ap (run_of b reading store r.main r.local) same) refl))

-- ---- the presses

-- one call of panel_cycle as a run of one cycle
abbrev shown : Called → Called
shown c = called (counted (as_ending c.number) (one (eqb c.number RAN) + 0)) c.main c.local c.state

as_run : (reading : Reading) (store : List ℕ) (r : Cycled) (main local state : List ℕ) → ran_by (once (cycle_of reading store) (outcome r main local)) state ≡ shown (cycled_by (outcome r main local) state)
as_run reading store (C.Ran t) main local state = ap (λ (o : Outcome Finished). ran_by o state) (spent (cycle_of reading store) main local t 1)
as_run reading store (C.Stopped t) main local state = refl
as_run reading store (C.Refused t r) main local state = rw (ne_eqb (refused r) RAN (λ z. omega arith))

press_is_run : (reading : Reading) (store main local state : List ℕ) → run_call reading store main local state 1 ≡ shown (cycle_call reading store main local state)
unfolding run_call call_by
press_is_run reading store main local state = by (ltb (length state) record_length)
  where
    o : Outcome Cycled
    o = cycle_of reading store main local (loaded state)

    by : (z : Bool) → cond z (short main local state) (ran_by (run_of 1 reading store main local (loaded state)) state) ≡ shown (cond z (short main local state) (cycled_by o state))
    by true = refl
    by false = ap (λ (r : Outcome Finished). ran_by r state) (one_cycle (lawful whole reading store) (machine (loaded state) main local)) ∙ as_run reading store o.answer o.main o.local state

-- the number of a press, as the end of a run, is below 2^32
module _ (reading : Reading) (store main local state : List ℕ) where
  abbrev Low : ℕ → Type 0
  Low code = as_ending code < 2 ^ 32

  answer_low : (r : Cycled) → (cycle_of reading store main local (loaded state)).answer ≡ r → Low (answer_cycle r state).number
  answer_low (C.Ran t) e = omega arith
  answer_low (C.Stopped t) e = omega arith
  answer_low (C.Refused t r) e =
      let (n, f) = refusal_small whole reading store main local (loaded state) t r e in
      rw (ne_eqb (refused r) RAN (λ z. omega arith)) (omega arith)

  press_low : Low (cycle_call reading store main local state).number
  unfolding call_by
  press_low = by (ltb (length state) record_length)
    where
      o : Outcome Cycled
      o = cycle_of reading store main local (loaded state)

      by : (z : Bool) → Low (cond z (short main local state) (cycled_by o state)).number
      by true = omega arith
      by false = answer_low o.answer refl

-- n cycles by the first, and then what is known of the second
then_second : (b : ℕ) (first whole : Called) (code n ending ran : ℕ) (main local state : List ℕ) → (b ≡ 0 → ⊥) → first.number ≡ counted code n → code < 2 ^ 32
    → DividedCalls b first (called (counted ending ran) main local state) whole → whole ≡ called (counted ending (n + ran)) main local state
then_second b first whole code n ending ran main local state some is small d =
    let same = rw (ne_eqb b 0 some) at d.code in
    let by_first : cycles_in first.number ≡ n = ap cycles_in is ∙ cycles_in_lem code n small in
    let all = d.cycles in
    let number : counted ending (n + ran) ≡ whole.number = omega arith in
    sym (λ i. called (number i) (d.in_main i) (d.in_local i) (d.in_state i))

-- the last press, with the number of the run
abbrev in_one : ℕ → Reading → List ℕ → Called → Called
in_one n reading store c =
    let last : Called = presses n reading store c in
    called (counted (as_ending last.number) (ran_in n reading store c)) last.main last.local last.state

some_presses : (n : ℕ) (reading : Reading) (store : List ℕ) (c : Called) → suc n ≤ 1000000 → press_run (suc n) reading store c ≡ in_one (suc n) reading store c
some_presses zero reading store c h = press_is_run reading store c.main c.local c.state
some_presses (suc n) reading store c h =
    let c1 : Called = press_cycle reading store c in
    let last : Called = presses (suc n) reading store c1 in
    let whole : Called = press_run (1 + suc n) reading store c in
    let two : suc (suc n) ≡ 1 + suc n = omega arith in
    let pressed = subst (λ (z : Called). Divide 1 (suc n) reading store c z whole) (press_is_run reading store c.main c.local c.state) (calls_divide 1 (suc n) reading store c (omega arith)) in
    let known = subst (λ (z : Called). DividedCalls (suc n) (shown c1) z whole) (some_presses n reading store c1 (omega arith)) pressed in
    ap (λ (k : ℕ). press_run k reading store c) two
    ∙ then_second (suc n) (shown c1) whole (as_ending c1.number) (one (eqb c1.number RAN)) (as_ending last.number) (ran_in (suc n) reading store c1) last.main last.local last.state
    (λ z. omega arith) (ap (counted (as_ending c1.number)) (add-zero _)) (press_low reading store c.main c.local c.state) known

-- a budget of 0 touches nothing
no_press : (reading : Reading) (store main local state : List ℕ) → Untouched main local state (run_call reading store main local state 0)
no_press reading store main local state = run_keeps reading store main local state 0 (by_record reading store main local state 0 (λ (c : Called). c.number < 2 ^ 32) (λ h. omega arith) ran)
  where
    r : Outcome Finished
    r = run_of 0 reading store main local (loaded state)

    ran : record_length ≤ length state → (ran_by r state).number < 2 ^ 32
    ran h =
        let code = code_small r.answer.ending (run_small (lawful whole reading store) 0 main local (loaded state)) in
        let none = count_within (lawful whole reading store) 0 main local (loaded state) in
        omega arith

shows : (n : ℕ) (reading : Reading) (store : List ℕ) (c : Called) (number : ℕ) → press_run n reading store c ≡ called number (presses n reading store c).main (presses n reading store c).local (presses n reading store c).state
    → ((n ≡ 0 → ⊥) → counted (as_ending (presses n reading store c).number) (ran_in n reading store c) ≡ number) → Shows n reading store c
shows n reading store c number e is =
    record {
      in_state = sym (ap (λ (z : Called). z.state) e);
      in_main = sym (ap (λ (z : Called). z.main) e);
      in_local = sym (ap (λ (z : Called). z.local) e);
      number = λ some. is some ∙ sym (ap (λ (z : Called). z.number) e);
    }

pub same_machine : SameMachine
same_machine zero reading store c h = shows 0 reading store c _ (no_press reading store c.main c.local c.state) (λ some. absurd (some refl))
same_machine (suc n) reading store c h = shows (suc n) reading store c _ (some_presses n reading store c h) (λ some. refl)

pub calls_quiet : CallsQuiet
calls_quiet budget reading store c quiet =
    by_record reading store c.main c.local c.state budget (λ (z : Called). (z.main ≡ c.main) × (z.local ≡ c.local)) (λ h. (refl, refl))
    (λ h. quiet_keeps whole reading budget store c.main c.local (loaded c.state) _ quiet refl)
