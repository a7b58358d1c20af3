-- What a cycle's answers mean, and that no second answer fits. Assumes nothing.
use Prim.Native.Nat.{ℕ, ◌<◌}
use mathlib.Core.Path.{◌≡◌, refl, sym, ap, ◌∙◌, subst}
use mathlib.Core.List.{List, map}
use mathlib.Core.Bool.{Bool, true, false, cond, not, ◌&&◌}
use native.Mathlib.Omega.{arith}
use mathlib.Core.Logic.{◌↔◌}
use borrow.Author.Rules.{rules}
use borrow.Author.Tests.{le-ltb}
use lib.Dec.{T, ltb}
use lib.ListN.{length, set, length-set}
use Rattle.std.specs.Prelude.{Option, Some, None, Ok, Err, unwrap_or}
use Rattle.digits.specs.Refusal.{Check, first, Given, refusal_number, refusal_field}
use Rattle.digits.specs.declared.refusal.Refusal.{Refusal}
use Rattle.digits.specs.declared.refusal.Refusal.TheVariants as R
use Rattle.digits.proofs.Refusals.{NoneHolds, none_first, first_none, given_first, first_given, accepts, first_is}
use Rattle.digits.proofs.Sole.{sole}
use Rattle.digits.proofs.Table.{each_split}
use Rattle.digits.proofs.Truth.{zero_one}
use Rattle.digits.specs.Sizes.{sizes_wrong}
use Rattle.word.specs.Layout.{line_of, fields_of}
use Rattle.word.specs.Word.{fault_checks, taken_apart}
use Rattle.word.specs.declared.Fields.{Fields}
use Rattle.codes.specs.Modelled.{code_rows, row_check, unmodelled_of}
use Rattle.codes.specs.declared.Reading.{Reading}
use Rattle.adder.specs.declared.Work.{Work}
use Rattle.machine.specs.Cycle.{Outcome, outcome, stops, access_in, step_checks, next_word_checks, cycle_checks, word_at, ran_of, decided, cycle_in, refusal_in, next_sum_of}
use Rattle.machine.specs.Sources.{entered, work_in}
use Rattle.storage.specs.Storage.{main_address}
use Rattle.machine.specs.declared.State.{State}
use Rattle.storage.specs.declared.Access.{Access}
use Rattle.storage.specs.declared.Fence.{Fence}
use Rattle.machine.specs.declared.Cycled.{Cycled}
use Rattle.machine.specs.declared.Cycled.TheVariants.{Ran, Stopped, Refused}
use Rattle.machine.proofs.Cycles.{address_fits}
use Rattle.machine.proofs.cycle_in.Reads as cycle_in_reads
use Rattle.machine.proofs.cycle.Reads as cycle
use Rattle.machine.proofs.next_sum.Reads as next_sum

-- what runs is answered so, and no other way
ran_ran : (reading : Reading) (f : Fields) (main local : List ℕ) (s : State) → (t : State) × ((ran_of reading f main local s).answer ≡ Ran t)
unfolding ran_of
ran_ran reading f main local s = (_, refl)

ran_not_stopped : (reading : Reading) (f : Fields) (main local : List ℕ) (s t : State) → (ran_of reading f main local s).answer ≡ Stopped t → ⊥
ran_not_stopped reading f main local s t e = let (x, is) = ran_ran reading f main local s in zero_one cc

ran_not_refused : (reading : Reading) (f : Fields) (main local : List ℕ) (s t : State) (r : Refusal) → (ran_of reading f main local s).answer ≡ Refused t r → ⊥
ran_not_refused reading f main local s t r e = let (x, is) = ran_ran reading f main local s in zero_one cc

-- ---- exactly when each of 1, 2, 3 to 11 is given

ran_refusal : (reading : Reading) (f : Fields) (main local : List ℕ) (s : State) → refusal_in (ran_of reading f main local s).answer ≡ None
unfolding ran_of
ran_refusal reading f main local s = refl

pub decided_refusal : (reading : Reading) (k : Option Refusal) (stop : Bool) (f : Fields) (main local : List ℕ) (s : State) → refusal_in (decided reading k stop f main local s).answer ≡ k
decided_refusal reading (Some r) stop f main local s = refl
decided_refusal reading None true f main local s = refl
decided_refusal reading None false f main local s = ran_refusal reading f main local s

pub cycle_exactly : (fence : Fence) (reading : Reading) (store main local : List ℕ) (s : State) (r : Refusal) → (refusal_in (cycle_in fence reading store main local s).answer ≡ Some r) ↔ Given r (cycle_checks fence reading store main local s)
unfolding cycle_in
cycle_exactly fence reading store main local s r =
    let f : Fields = fields_of (word_at store s) in
    let cs : List (Check Refusal) = cycle_checks fence reading store main local s in
    let is = decided_refusal reading (first cs) (stops f) f main local s in
    (λ e. first_given cs (sym is ∙ e), λ g. is ∙ given_first cs r g)

-- ---- exactly when a cycle stops, and when it runs: no refusal is given, and the word stops or does not

module _ (reading : Reading) (f : Fields) (main local : List ℕ) (s t : State) where
  decided_stopped : (k : Option Refusal) (stop : Bool) → (decided reading k stop f main local s).answer ≡ Stopped t → (k ≡ None) × (stop ≡ true)
  decided_stopped (Some r) stop e = absurd (zero_one cc)
  decided_stopped None true e = (refl, refl)
  decided_stopped None false e = absurd (ran_not_stopped reading f main local s t e)

  decided_ran : (k : Option Refusal) (stop : Bool) → (decided reading k stop f main local s).answer ≡ Ran t → (k ≡ None) × (stop ≡ false)
  decided_ran (Some r) stop e = absurd (zero_one cc)
  decided_ran None true e = absurd (zero_one cc)
  decided_ran None false e = (refl, refl)

module _ (fence : Fence) (reading : Reading) (store main local : List ℕ) (s : State) where
  pub stopped_exactly : ((cycle_in fence reading store main local s).answer ≡ Stopped s) ↔ (NoneHolds (cycle_checks fence reading store main local s) × (stops (fields_of (word_at store s)) ≡ true))
  unfolding cycle_in
  stopped_exactly =
      let f : Fields = fields_of (word_at store s) in
      let cs : List (Check Refusal) = cycle_checks fence reading store main local s in (
        λ e. let (none, stop) = decided_stopped reading f main local s s (first cs) (stops f) e in (first_none cs none, stop),
        λ h. λ i. (decided reading (none_first cs h.0 i) (h.1 i) f main local s).answer,
      )

  pub ran_exactly : ((t : State) × ((cycle_in fence reading store main local s).answer ≡ Ran t)) ↔ (NoneHolds (cycle_checks fence reading store main local s) × (stops (fields_of (word_at store s)) ≡ false))
  unfolding cycle_in
  ran_exactly =
      let f : Fields = fields_of (word_at store s) in
      let cs : List (Check Refusal) = cycle_checks fence reading store main local s in (
        λ w. let (none, on) = decided_ran reading f main local s w.0 (first cs) (stops f) w.1 in (first_none cs none, on),
        λ h. let (t, r) = ran_ran reading f main local s in (t, (λ i. (decided reading (none_first cs h.0 i) (h.1 i) f main local s).answer) ∙ r),
      )

  -- what it then does is what the fields of its word do
  pub ran_fields : (t : State) → (cycle_in fence reading store main local s).answer ≡ Ran t → cycle_in fence reading store main local s ≡ ran_of reading (fields_of (word_at store s)) main local s
  unfolding cycle_in
  ran_fields t e =
      let f : Fields = fields_of (word_at store s) in
      let (none, on) = ran_exactly.0 (t, e) in
      λ i. decided reading (none_first (cycle_checks fence reading store main local s) none i) (on i) f main local s

-- ---- what is shown of the word that would run next is the work of its cycle

module _ (fence : Fence) (reading : Reading) (store main local : List ℕ) (s : State) where
  apart_is : NoneHolds (cycle_checks fence reading store main local s) → taken_apart (word_at store s) s.wx ≡ Ok (fields_of (word_at store s))
  unfolding taken_apart
  apart_is none =
      let faults : List (Check Refusal) = fault_checks (word_at store s) s.wx (line_of (word_at store s)) in
      let (good, rest) = each_split (λ (c : Check Refusal). c.1 ≡ false) faults (step_checks fence reading (fields_of (word_at store s)) (length main) s) none.1.1 in
      accepts Err (Ok (fields_of (word_at store s)))
      (rw (le-ltb 4095 s.wx (address_fits (length store) (length main) (length local) s.wx none.0 none.1.0)) (none_first faults good))

  pub ran_shown : (t : State) → (cycle_in fence reading store main local s).answer ≡ Ran t → next_sum_of store s ≡ Some (work_in (fields_of (word_at store s)) (entered (fields_of (word_at store s)) s))
  unfolding next_sum_of
  ran_shown t e =
      let (none, on) = (ran_exactly fence reading store main local s).0 (t, e) in
      rw (none.1.0, apart_is none, on)

-- ---- what a refusal and a stop leave: everything

-- the state and both storages are as they were
pub record Kept (main local : List ℕ) (s t : State) (o : Outcome Cycled) : Type 0 where
  pub state : t ≡ s
  pub in_main : o.main ≡ main
  pub in_local : o.local ≡ local

module _ (reading : Reading) (f : Fields) (main local : List ℕ) (s t : State) where
  refused_keeps : (k : Option Refusal) (stop : Bool) (r : Refusal) → (decided reading k stop f main local s).answer ≡ Refused t r → Kept main local s t (decided reading k stop f main local s)
  refused_keeps (Some q) stop r e = record { state = cc; in_main = refl; in_local = refl }
  refused_keeps None true r e = absurd (zero_one cc)
  refused_keeps None false r e = absurd (ran_not_refused reading f main local s t r e)

  stopped_keeps : (k : Option Refusal) (stop : Bool) → (decided reading k stop f main local s).answer ≡ Stopped t → Kept main local s t (decided reading k stop f main local s)
  stopped_keeps (Some r) stop e = absurd (zero_one cc)
  stopped_keeps None true e = record { state = cc; in_main = refl; in_local = refl }
  stopped_keeps None false e = absurd (ran_not_stopped reading f main local s t e)

module _ (fence : Fence) (reading : Reading) (store main local : List ℕ) (s t : State) where
  pub refusal_keeps : (r : Refusal) → (cycle_in fence reading store main local s).answer ≡ Refused t r → Kept main local s t (cycle_in fence reading store main local s)
  unfolding cycle_in
  refusal_keeps r e =
      let f : Fields = fields_of (word_at store s) in
      refused_keeps reading f main local s t (first (cycle_checks fence reading store main local s)) (stops f) r e

  pub stop_keeps : (cycle_in fence reading store main local s).answer ≡ Stopped t → Kept main local s t (cycle_in fence reading store main local s)
  unfolding cycle_in
  stop_keeps e =
      let f : Fields = fields_of (word_at store s) in
      stopped_keeps reading f main local s t (first (cycle_checks fence reading store main local s)) (stops f) e

-- ---- the storages keep their sizes, whatever the answer

pub record SameSizes (main local : List ℕ) (o : Outcome Cycled) : Type 0 where
  pub of_main : length o.main ≡ length main
  pub of_local : length o.local ≡ length local

put_size : (l : List ℕ) (at r : ℕ) (puts : Bool) → length (cond puts (set l at r) l) ≡ length l
put_size l at r true = length-set l at r
put_size l at r false = refl

ran_sizes : (reading : Reading) (f : Fields) (main local : List ℕ) (s : State) → SameSizes main local (ran_of reading f main local s)
unfolding ran_of
ran_sizes reading f main local s =
    let e : State = entered f s in
    let a : Access = access_in f s in
    record { of_main = put_size main (main_address a) e.r (a.puts && not a.local); of_local = put_size local a.n e.r (a.puts && a.local) }

decided_sizes : (reading : Reading) (k : Option Refusal) (stop : Bool) (f : Fields) (main local : List ℕ) (s : State) → SameSizes main local (decided reading k stop f main local s)
decided_sizes reading (Some r) stop f main local s = record { of_main = refl; of_local = refl }
decided_sizes reading None true f main local s = record { of_main = refl; of_local = refl }
decided_sizes reading None false f main local s = ran_sizes reading f main local s

pub sizes_stay : (fence : Fence) (reading : Reading) (store main local : List ℕ) (s : State) → SameSizes main local (cycle_in fence reading store main local s)
unfolding cycle_in
sizes_stay fence reading store main local s = decided_sizes reading (first (cycle_checks fence reading store main local s)) (stops (fields_of (word_at store s))) (fields_of (word_at store s)) main local s

-- with wrong sizes a cycle is refused by 1
pub refused_by_1 : (fence : Fence) (reading : Reading) (store main local : List ℕ) (s : State) → sizes_wrong (length store) (length main) (length local) ≡ true → outcome (Refused s R.Size) main local ≡ cycle_in fence reading store main local s
unfolding cycle_in
refused_by_1 fence reading store main local s wrong = rw wrong

-- with right ones no refusal of a cycle has that number; and none ever has 22
pub never_1 : (fence : Fence) (reading : Reading) (store main local : List ℕ) (s : State) → sizes_wrong (length store) (length main) (length local) ≡ false → (r : Refusal) → refusal_in (cycle_in fence reading store main local s).answer ≡ Some r → refusal_number r ≡ 1 → ⊥
unfolding cycle_in
never_1 fence reading store main local s right r e one =
    let f : Fields = fields_of (word_at store s) in
    let checks : List (Check Refusal) = next_word_checks fence reading store (length main) s in
    let is : first checks ≡ Some r =
    ap (λ (b : Bool). cond b (Some R.Size) (first checks)) (sym right) ∙ sym (decided_refusal reading (first (cycle_checks fence reading store main local s)) (stops f) f main local s) ∙ e in
    subst (λ (n : ℕ). T (ltb 1 n)) one (first_is (λ (q : Refusal). T (ltb 1 (refusal_number q))) checks (search rules) is)

pub never_22 : (fence : Fence) (reading : Reading) (store main local : List ℕ) (s : State) (r : Refusal) → refusal_in (cycle_in fence reading store main local s).answer ≡ Some r → refusal_number r ≡ 22 → ⊥
unfolding cycle_in
never_22 fence reading store main local s r e last =
    let f : Fields = fields_of (word_at store s) in
    let checks : List (Check Refusal) = cycle_checks fence reading store main local s in
    let is : first checks ≡ Some r = sym (decided_refusal reading (first checks) (stops f) f main local s) ∙ e in
    subst (λ (n : ℕ). T (ltb n 22)) last (first_is (λ (q : Refusal). T (ltb (refusal_number q) 22)) checks (search rules) is)

-- ---- a refusal's number and field are bytes

place_small : (reading : Reading) (f : Fields) → unwrap_or (unmodelled_of reading f) 0 < 256
unfolding unmodelled_of
place_small reading f = by (first rows) refl
  where
    rows : List (Check ℕ)
    rows = map row_check (code_rows reading f)

    by : (k : Option ℕ) → first rows ≡ k → unwrap_or k 0 < 256
    by None e = omega arith
    by (Some place) e = first_is (λ (p : ℕ). p < 256) rows (search rules) e

module _ (fence : Fence) (reading : Reading) (store main local : List ℕ) (s t : State) (r : Refusal) where
  pub refusal_small : (cycle_in fence reading store main local s).answer ≡ Refused t r → (refusal_number r < 256) × (refusal_field r < 256)
  unfolding cycle_in
  refusal_small e =
      let f : Fields = fields_of (word_at store s) in
      let checks : List (Check Refusal) = cycle_checks fence reading store main local s in
      let place : unwrap_or (unmodelled_of reading f) 0 < 256 = place_small reading f in
      first_is (λ (q : Refusal). (refusal_number q < 256) × (refusal_field q < 256)) checks (search (rules, place))
      (sym (decided_refusal reading (first checks) (stops f) f main local s) ∙ ap refusal_in e)

-- ---- no second answer fits, nor a second storage. The promise names no correction, so the cycle by table is the cycle by rule

pub cycle_in_sole : (κs : _) (args : _) (r q : Cycled) (x y : _) → cycle_in_reads.Post κs args r x → cycle_in_reads.Post κs args q y → outcome r x.1.1.1.0.now x.1.1.1.1.0.now ≡ outcome q y.1.1.1.0.now y.1.1.1.1.0.now
cycle_in_sole κs args r q x y a b = sole a b

pub cycle_sole : (κs : _) (args : _) (r q : Cycled) (x y : _) → cycle.Post κs args r x → cycle.Post κs args q y → outcome r x.1.1.0.now x.1.1.1.0.now ≡ outcome q y.1.1.0.now y.1.1.1.0.now
cycle_sole κs args r q x y a b = sole a b

pub next_sum_sole : (κs : _) (args : _) (r q : Option Work) (x y : _) → next_sum.Post κs args r x → next_sum.Post κs args q y → r ≡ q
next_sum_sole κs args r q x y a b = sole a b
