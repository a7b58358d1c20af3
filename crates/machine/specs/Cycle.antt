-- "One cycle", in the paper's order. Assumes nothing.
use Rattle.std.specs.Prelude.{ℕ, List, [], ◌∷◌, ◌++◌, Bool, true, false, cond, not, ◌&&◌, eqb, leb, get_or, length, Option, Some, None, is_some, unwrap_or}
use Rattle.std.specs.Result.{result_ok}
use Rattle.digits.specs.Refusal.{Check, first}
use Rattle.digits.specs.Sizes.{sizes_wrong}
use Rattle.digits.specs.declared.refusal.Refusal.{Refusal}
use Rattle.digits.specs.declared.refusal.Refusal.TheVariants as R
use Rattle.word.specs.Layout.{line_of, fields_of}
use Rattle.word.specs.Parity.{is_return}
use Rattle.word.specs.Word.{fault_checks, taken_apart}
use Rattle.word.specs.declared.Fields.{Fields}
use Rattle.codes.specs.Modelled.{unmodelled_of}
use Rattle.codes.specs.declared.Reading.{Reading}
use Rattle.storage.specs.Storage.{access_of, whole, outside, fetched_of, main_after, local_after}
use Rattle.storage.specs.declared.Access.{Access}
use Rattle.storage.specs.declared.Fence.{Fence}
use Rattle.storage.specs.declared.Seen.{Seen}
use Rattle.adder.specs.declared.Sum.{Sum}
use Rattle.adder.specs.declared.Work.{Work}
use Rattle.machine.specs.Sources.{entered, sum_in, work_in}
use Rattle.machine.specs.Branch.{next_of}
use Rattle.machine.specs.Status.{into, status_of}
use Rattle.machine.specs.declared.State.{State}
use Rattle.machine.specs.declared.Cycled.{Cycled}
use Rattle.machine.specs.declared.Cycled.TheVariants.{Ran, Stopped, Refused}

-- an answer, and both storages as they then are
pub record Outcome (A : Type 0) : Type 0 where
  pub answer : A
  pub main : List ℕ
  pub local : List ℕ

abbrev pub outcome : {A : Type 0} → A → List ℕ → List ℕ → Outcome A
outcome answer main local = record { answer = answer; main = main; local = local }

-- "4 stop"
abbrev pub stops : Fields → Bool
stops f = eqb f.cf 4

-- what storage sees of a state
abbrev pub seen_of : State → Seen
seen_of s =
    record {
      i = s.i;
      j = s.j;
      u = s.u;
      v = s.v;
      l = s.l;
      t = s.t;
      g = s.g;
      m = s.m;
      n = s.n;
      allow_write = s.allow_write;
      local_selected = s.local_selected;
    }

-- what storage is to do, decided after the arriving byte is in R
abbrev pub access_in : Fields → State → Access
access_in f s = access_of f (seen_of (entered f s))

-- "Stop is decided after 9 and before 10": 10, with the place of its field, and 11
abbrev pub step_checks : Fence → Reading → Fields → ℕ → State → List (Check Refusal)
step_checks fence reading f main s =
    (R.NotModelled (unwrap_or (unmodelled_of reading f) 0), not (stops f) && is_some (unmodelled_of reading f)) ∷
    (R.MainAddress, not (stops f) && outside fence main (access_in f s)) ∷
    []

abbrev pub word_at : List ℕ → State → ℕ
word_at store s = get_or store s.wx 0

-- the refusals of a word in the order checked: 2, 3 to 9, 10, 11. The reading goes with the store, the fence with the board
abbrev pub next_word_checks : Fence → Reading → List ℕ → ℕ → State → List (Check Refusal)
next_word_checks fence reading store main s =
    (R.NoWord, leb (length store) s.wx) ∷
    (fault_checks (word_at store s) s.wx (line_of (word_at store s)) ++ step_checks fence reading (fields_of (word_at store s)) main s)

-- and of a cycle: 1, then those
abbrev pub cycle_checks : Fence → Reading → List ℕ → List ℕ → List ℕ → State → List (Check Refusal)
cycle_checks fence reading store main local s =
    (R.Size, sizes_wrong (length store) (length main) (length local)) ∷ next_word_checks fence reading store (length main) s

-- "e. The result goes to the CD register; then CS changes S; then S3 takes the new AC if CC saves it. Last, WX."
-- s has the arriving byte in R, z is the adder's answer, a is what storage does
abbrev pub after : Reading → Fields → Sum → Access → ℕ → State → State
after reading f z a fetched s =
    record {
      -- "CD: 0 nowhere, 5 H, 6 S, 7 R, and 8 to 15 as CA"
      i = into 15 f.cd z.result s.i;
      j = into 14 f.cd z.result s.j;
      u = into 13 f.cd z.result s.u;
      v = into 12 f.cd z.result s.v;
      l = into 9 f.cd z.result s.l;
      t = into 11 f.cd z.result s.t;
      d = into 8 f.cd z.result s.d;
      r = into 7 f.cd z.result s.r;
      s = status_of reading f z (into 6 f.cd z.result s.s);
      g = into 10 f.cd z.result s.g;
      h = into 5 f.cd z.result s.h;
      m = a.m;
      n = a.n;
      wx = next_of reading f s;
      -- "AC, 1BC and Z0 are set from it."
      ac = z.ac;
      one_bc = z.one_bc;
      z0 = z.z0;
      allow_write = a.latch;
      local_selected = a.local;
      arriving = a.fetches;
      arriving_byte = fetched;
      -- "the state must keep them as latches for the display"
      digit_carry = z.digit_carry;
      invalid = z.invalid;
      -- "The return word closes the trap."
      fwx = s.fwx;
      owed = not (is_return f) && s.owed;
    }

-- a to e: what the fields do
unfoldable pub ran_of : Reading → Fields → List ℕ → List ℕ → State → Outcome Cycled
ran_of reading f main local s =
    let e : State = entered f s in
    let a : Access = access_of f (seen_of e) in
    outcome (Ran (after reading f (sum_in f e) a (fetched_of main local a) e)) (main_after main a e.r) (local_after local a e.r)

-- "A cycle answers ran, stopped or refused, each with its state." Stop and "refusals change nothing"
abbrev pub decided : Reading → Option Refusal → Bool → Fields → List ℕ → List ℕ → State → Outcome Cycled
decided reading (Some refusal) stop f main local s = outcome (Refused s refusal) main local
decided reading None true f main local s = outcome (Stopped s) main local
decided reading None false f main local s = ran_of reading f main local s

-- from the fields on
abbrev pub step_of : Fence → Reading → Fields → List ℕ → List ℕ → State → Outcome Cycled
step_of fence reading f main local s = decided reading (first (step_checks fence reading f (length main) s)) (stops f) f main local s

-- one cycle in a fence
unfoldable pub cycle_in : Fence → Reading → List ℕ → List ℕ → List ℕ → State → Outcome Cycled
cycle_in fence reading store main local s =
    let f : Fields = fields_of (word_at store s) in
    decided reading (first (cycle_checks fence reading store main local s)) (stops f) f main local s

-- one cycle: all main storage is in the fence
abbrev pub cycle_of : Reading → List ℕ → List ℕ → List ℕ → State → Outcome Cycled
cycle_of reading store main local s = cycle_in whole reading store main local s

-- the refusal of each answer, none where it does not refuse
abbrev pub refusal_in : Cycled → Option Refusal
refusal_in (Ran t) = None
refusal_in (Stopped t) = None
refusal_in (Refused t refusal) = Some refusal

-- what the adder does in a word that does not stop: the byte that is arriving is in R
abbrev pub sum_by : Fields → State → Option Work
sum_by f s = cond (stops f) None (Some (work_in f (entered f s)))

-- and for the word that would run next, where it stands in the store and is not refused by 3 to 9
abbrev pub next_by : Option Fields → State → Option Work
next_by None s = None
next_by (Some f) s = sum_by f s

unfoldable pub next_sum_of : List ℕ → State → Option Work
next_sum_of store s = cond (leb (length store) s.wx) None (next_by (result_ok (taken_apart (word_at store s) s.wx)) s)
