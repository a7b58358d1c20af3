-- What the answers mean, and that no second answer fits. Assumes nothing.
use Prim.Native.Nat.{ℕ, ◌^◌, ◌<◌, ◌≤◌}
use mathlib.Core.Path.{◌≡◌, refl, ap}
use mathlib.Core.List.{List}
use mathlib.Core.Bool.{Bool, true, false, cond}
use native.Mathlib.Omega.{arith}
use lib.Dec.{ltb}
use lib.ListN.{length}
use Rattle.std.specs.Prelude.{Option, Some, None}
use Rattle.digits.specs.Refusal.{first}
use Rattle.digits.specs.declared.refusal.Refusal.{Refusal}
use Rattle.digits.proofs.Sole.{sole}
use Rattle.word.specs.Layout.{fields_of}
use Rattle.word.specs.declared.Fields.{Fields}
use Rattle.codes.specs.declared.Reading.{Reading}
use Rattle.storage.specs.Storage.{whole}
use Rattle.storage.specs.declared.Fence.{Fence}
use Rattle.machine.specs.Cycle.{Outcome, outcome, stops, cycle_checks, word_at, ran_of, decided, cycle_in, cycle_of}
use Rattle.machine.specs.declared.State.{State}
use Rattle.machine.specs.declared.Cycled.{Cycled}
use Rattle.machine.specs.declared.Cycled.TheVariants as C
use Rattle.machine.proofs.Promises.{Kept, refusal_keeps, stop_keeps}
use Rattle.run.specs.Run.{run_of}
use Rattle.run.specs.declared.Finished.{Finished}
use Rattle.run.proofs.Goes.{Machine, lawful, goes_none}
use Rattle.run.proofs.Promises.{run_goes}
use Rattle.session.specs.Turn.{turn_of}
use Rattle.session.proofs.Turns.{turn_stops, turn_refuses}
use Rattle.channels.specs.Channels.{record_length, loaded}
use Rattle.panel.specs.Answers.{RAN, coded, STOPPED, refused, answered, Called, called, short, answer_cycle, cycled_by, call_by, cycle_call, turn_call, ran_by, run_call}
use Rattle.panel.proofs.Calls.{by_record}
use Rattle.panel.proofs.panel_take_apart.Reads as take_apart
use Rattle.panel.proofs.panel_pack.Reads as pack
use Rattle.panel.proofs.panel_cycle.Reads as cycle
use Rattle.panel.proofs.panel_run.Reads as run
use Rattle.panel.proofs.panel_open.Reads as opens
use Rattle.panel.proofs.panel_turn.Reads as turn
use Rattle.panel.proofs.panel_add_decimal.Reads as add_decimal
use Rattle.panel.proofs.panel_add_decimal_in.Reads as add_decimal_in
use Rattle.panel.proofs.panel_add_signed.Reads as add_signed
use Rattle.panel.proofs.panel_sub_signed.Reads as sub_signed
use Rattle.panel.proofs.panel_read_deck.Reads as read_deck
use Rattle.panel.proofs.panel_write_deck.Reads as write_deck
use Rattle.panel.proofs.panel_trap.Reads as trap
use Rattle.panel.proofs.panel_next_sum.Reads as next_sum
use Rattle.panel.proofs.panel_start.Reads as start
use Rattle.panel.proofs.panel_start_signed.Reads as start_signed
use Rattle.panel.proofs.panel_shipped.Reads as shipped
use Rattle.panel.proofs.panel_shipped_signed.Reads as shipped_signed
use Rattle.panel.proofs.panel_read_signed.Reads as read_signed
use Rattle.panel.proofs.panel_write_signed.Reads as write_signed

-- ---- "on a refusal changes no lent byte", nor does a stop

-- nothing that was lent has changed
abbrev pub Untouched : List ℕ → List ℕ → List ℕ → Called → Type 0
Untouched main local state c = c ≡ called c.number main local state

-- a cycle whose stops and refusals leave everything
module _ (cycle : State → Outcome Cycled) (main local state : List ℕ) (keeps : (t : State) → ((cycle (loaded state)).answer ≡ C.Stopped t → Kept main local (loaded state) t (cycle (loaded state)))
    × ((r : Refusal) → (cycle (loaded state)).answer ≡ C.Refused t r → Kept main local (loaded state) t (cycle (loaded state)))) where
  abbrev o : Outcome Cycled
  o = cycle (loaded state)

  call_same : (a : Cycled) → o.answer ≡ a → ((answer_cycle a state).number ≡ RAN → ⊥) → Untouched main local state (called (answer_cycle a state).number o.main o.local (answer_cycle a state).lent)
  call_same (C.Ran t) e h = absurd (h refl)
  call_same (C.Stopped t) e h = let k = (keeps t).0 e in λ i. called (coded STOPPED 0 0) (k.in_main i) (k.in_local i) state
  call_same (C.Refused t r) e h = let k = (keeps t).1 r e in λ i. called (refused r) (k.in_main i) (k.in_local i) state

  call_keeps : ((call_by cycle main local state).number ≡ RAN → ⊥) → Untouched main local state (call_by cycle main local state)
  unfolding call_by
  call_keeps = by (ltb (length state) record_length) (cycled_by o state) (call_same o.answer refl)
    where
      by : (b : Bool) (c : Called) → ((c.number ≡ RAN → ⊥) → Untouched main local state c) → ((cond b (short main local state) c).number ≡ RAN → ⊥) → Untouched main local state (cond b (short main local state) c)
      by true c k h = refl
      by false c k h = k h

-- a cycle that did not run, and a turn
pub cycle_keeps : (reading : Reading) (store main local state : List ℕ) → ((cycle_call reading store main local state).number ≡ RAN → ⊥) → Untouched main local state (cycle_call reading store main local state)
cycle_keeps reading store main local state =
    call_keeps (cycle_of reading store main local) main local state (λ t. (stop_keeps whole reading store main local (loaded state) t, refusal_keeps whole reading store main local (loaded state) t))

pub turn_keeps : (own other : Fence) (reading : Reading) (store main local state : List ℕ) → ((turn_call own other reading store main local state).number ≡ RAN → ⊥)
    → Untouched main local state (turn_call own other reading store main local state)
turn_keeps own other reading store main local state =
    call_keeps (turn_of own other reading store main local) main local state (λ t. (turn_stops own other reading store main local (loaded state) t, turn_refuses own other reading store main local (loaded state) t))

ran_none : (r : Outcome Finished) (main local state : List ℕ) → r.answer.count ≡ 0 → r.main ≡ main → r.local ≡ local → Untouched main local state (ran_by r state)
ran_none r main local state e em el = rw (e, em, el)

-- a run of which no cycle ran
pub run_keeps : (reading : Reading) (store main local state : List ℕ) (budget : ℕ) → (run_call reading store main local state budget).number < 2 ^ 32 → Untouched main local state (run_call reading store main local state budget)
run_keeps reading store main local state budget = by_record reading store main local state budget (λ (c : Called). c.number < 2 ^ 32 → Untouched main local state c) (λ short h. refl) ran
  where
    r : Outcome Finished
    r = run_of budget reading store main local (loaded state)

    ran : record_length ≤ length state → (ran_by r state).number < 2 ^ 32 → Untouched main local state (ran_by r state)
    ran long h =
        let e : r.answer.count ≡ 0 = omega arith in
        let x = goes_none (run_goes (lawful whole reading store) budget main local (loaded state)) e in
        ran_none r main local state e (ap (λ (m : Machine). m.main) x) (ap (λ (m : Machine). m.local) x)

-- ---- "With ARRIVING off, .. a cycle writes 0."

abbrev pub Unlit : Cycled → Type 0
Unlit (C.Ran t) = t.arriving ≡ false → t.arriving_byte ≡ 0
Unlit (C.Stopped t) = Unit {0}
Unlit (C.Refused t r) = Unit {0}

ran_unlit : (reading : Reading) (f : Fields) (main local : List ℕ) (s : State) → Unlit (ran_of reading f main local s).answer
unfolding ran_of
ran_unlit reading f main local s h = rw h

decided_unlit : (reading : Reading) (k : Option Refusal) (stop : Bool) (f : Fields) (main local : List ℕ) (s : State) → Unlit (decided reading k stop f main local s).answer
decided_unlit reading (Some r) stop f main local s = tt
decided_unlit reading None true f main local s = tt
decided_unlit reading None false f main local s = ran_unlit reading f main local s

pub cycle_unlit : (reading : Reading) (store main local : List ℕ) (s : State) → Unlit (cycle_of reading store main local s).answer
unfolding cycle_in
cycle_unlit reading store main local s =
    let f : Fields = fields_of (word_at store s) in
    decided_unlit reading (first (cycle_checks whole reading store main local s)) (stops f) f main local s

-- ---- no second answer fits, nor a second state of what is lent

pub take_apart_sole : (κs : _) (args : _) (r q : ℕ) (x y : _) → take_apart.Post κs args r x → take_apart.Post κs args q y → answered r x.1.1.0.now ≡ answered q y.1.1.0.now
take_apart_sole κs args r q x y a b = sole a b

pub pack_sole : (κs : _) (args : _) (r q : ℕ) (x y : _) → pack.Post κs args r x → pack.Post κs args q y → answered r x.1.1.0.now ≡ answered q y.1.1.0.now
pack_sole κs args r q x y a b = sole a b

pub cycle_sole : (κs : _) (args : _) (r q : ℕ) (x y : _) → cycle.Post κs args r x → cycle.Post κs args q y
    → called r x.1.1.0.now x.1.1.1.0.now x.1.1.1.1.0.now ≡ called q y.1.1.0.now y.1.1.1.0.now y.1.1.1.1.0.now
cycle_sole κs args r q x y a b = sole a b

pub open_sole : (κs : _) (args : _) (r q : ℕ) (x y : _) → opens.Post κs args r x → opens.Post κs args q y → r ≡ q
open_sole κs args r q x y a b = sole a b

pub turn_sole : (κs : _) (args : _) (r q : ℕ) (x y : _) → turn.Post κs args r x → turn.Post κs args q y
    → called r x.1.1.0.now x.1.1.1.0.now x.1.1.1.1.0.now ≡ called q y.1.1.0.now y.1.1.1.0.now y.1.1.1.1.0.now
turn_sole κs args r q x y a b = sole a b

pub run_sole : (κs : _) (args : _) (r q : ℕ) (x y : _) → run.Post κs args r x → run.Post κs args q y
    → called r x.1.1.0.now x.1.1.1.0.now x.1.1.1.1.0.now ≡ called q y.1.1.0.now y.1.1.1.0.now y.1.1.1.1.0.now
run_sole κs args r q x y a b = sole a b

pub add_decimal_sole : (κs : _) (args : _) (r q : ℕ) (x y : _) → add_decimal.Post κs args r x → add_decimal.Post κs args q y → outcome r x.0.now x.1.0.now ≡ outcome q y.0.now y.1.0.now
add_decimal_sole κs args r q x y a b = sole a b

pub add_decimal_in_sole : (κs : _) (args : _) (r q : ℕ) (x y : _) → add_decimal_in.Post κs args r x → add_decimal_in.Post κs args q y → outcome r x.0.now x.1.0.now ≡ outcome q y.0.now y.1.0.now
add_decimal_in_sole κs args r q x y a b = sole a b

pub add_signed_sole : (κs : _) (args : _) (r q : ℕ) (x y : _) → add_signed.Post κs args r x → add_signed.Post κs args q y → outcome r x.0.now x.1.0.now ≡ outcome q y.0.now y.1.0.now
add_signed_sole κs args r q x y a b = sole a b

pub sub_signed_sole : (κs : _) (args : _) (r q : ℕ) (x y : _) → sub_signed.Post κs args r x → sub_signed.Post κs args q y → outcome r x.0.now x.1.0.now ≡ outcome q y.0.now y.1.0.now
sub_signed_sole κs args r q x y a b = sole a b

pub read_deck_sole : (κs : _) (args : _) (r q : ℕ) (x y : _) → read_deck.Post κs args r x → read_deck.Post κs args q y → answered r x.1.0.now ≡ answered q y.1.0.now
read_deck_sole κs args r q x y a b = sole a b

pub write_deck_sole : (κs : _) (args : _) (r q : ℕ) (x y : _) → write_deck.Post κs args r x → write_deck.Post κs args q y → answered r x.1.0.now ≡ answered q y.1.0.now
write_deck_sole κs args r q x y a b = sole a b

pub trap_sole : (κs : _) (args : _) (r q : ℕ) (x y : _) → trap.Post κs args r x → trap.Post κs args q y → answered r x.1.0.now ≡ answered q y.1.0.now
trap_sole κs args r q x y a b = sole a b

pub next_sum_sole : (κs : _) (args : _) (r q : ℕ) (x y : _) → next_sum.Post κs args r x → next_sum.Post κs args q y → answered r x.1.1.0.now ≡ answered q y.1.1.0.now
next_sum_sole κs args r q x y a b = sole a b

pub start_sole : (κs : _) (args : _) (r q : ℕ) (x y : _) → start.Post κs args r x → start.Post κs args q y → answered r x.1.1.1.1.0.now ≡ answered q y.1.1.1.1.0.now
start_sole κs args r q x y a b = sole a b

pub start_signed_sole : (κs : _) (args : _) (r q : ℕ) (x y : _) → start_signed.Post κs args r x → start_signed.Post κs args q y → answered r x.1.1.1.1.0.now ≡ answered q y.1.1.1.1.0.now
start_signed_sole κs args r q x y a b = sole a b

pub shipped_sole : (κs : _) (args : _) (r q : ℕ) (x y : _) → shipped.Post κs args r x → shipped.Post κs args q y → answered r x.0.now ≡ answered q y.0.now
shipped_sole κs args r q x y a b = sole a b

pub shipped_signed_sole : (κs : _) (args : _) (r q : ℕ) (x y : _) → shipped_signed.Post κs args r x → shipped_signed.Post κs args q y → answered r x.0.now ≡ answered q y.0.now
shipped_signed_sole κs args r q x y a b = sole a b

pub read_signed_sole : (κs : _) (args : _) (r q : ℕ) (x y : _) → read_signed.Post κs args r x → read_signed.Post κs args q y → answered r x.1.0.now ≡ answered q y.1.0.now
read_signed_sole κs args r q x y a b = sole a b

pub write_signed_sole : (κs : _) (args : _) (r q : ℕ) (x y : _) → write_signed.Post κs args r x → write_signed.Post κs args q y → answered r x.1.0.now ≡ answered q y.1.0.now
write_signed_sole κs args r q x y a b = sole a b
