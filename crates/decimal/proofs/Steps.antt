-- One word of any program, from its fields: what it needs to run, and what it leaves; and words in a row. It names no program. Assumes nothing.
use Prim.Native.Nat.{ℕ, suc, ◌<◌, ◌≤◌}
use mathlib.Core.Path.{◌≡◌, refl, sym, ap, subst, ◌∙◌}
use mathlib.Core.List.{List, [], ◌∷◌, map}
use mathlib.Core.Bool.{Bool, true, false, not, ◌&&◌, ◌||◌}
use borrow.Author.Tests.{lt-leb, not-true, eqb-true}
use lib.Dec.{T, eqb, ltb, leb, ltb→lt, eqb→eq}
use lib.ListN.{length, get_or}
use mir.Facts.{and_yes}
use Rattle.std.specs.Prelude.{Option, Some, None, Result, Ok, Err}
use Rattle.std.specs.Option.{is_none}
use Rattle.digits.specs.Bits.{one}
use Rattle.digits.specs.Table.{among}
use Rattle.digits.specs.declared.refusal.Refusal.{Refusal}
use Rattle.word.specs.Word.{packed}
use Rattle.word.specs.declared.Fields.{Fields}
use Rattle.word.proofs.Trips.{packed_apart}
use Rattle.storage.specs.Storage.{outside, main_after, local_after}
use Rattle.storage.specs.declared.Fence.{Fence}
use Rattle.machine.specs.Sources.{entered}
use Rattle.codes.specs.Modelled.{unmodelled_of}
use Rattle.codes.specs.declared.Reading.TheVariants.{Basic}
use Rattle.machine.specs.Cycle.{outcome, stops, access_in, ran_of, step_of, cycle_in}
use Rattle.machine.specs.declared.State.{State}
use Rattle.machine.specs.declared.Cycled.TheVariants as C
use Rattle.machine.proofs.Cycles.{on_stop, on_ran, after_fields, on_apart}
use Rattle.run.specs.Run.{Cycle, ended, run_in}
use Rattle.run.specs.declared.Ending.TheVariants.{Stopped}
use Rattle.run.proofs.Goes.{Machine, machine, Leads, Halts, Goes, here, next, Right, lawful, goes_right, ends}
use Rattle.run.proofs.Promises.{right_begins}
use Rattle.decimal.specs.Program.{Microword, microword_at}

-- ---- a state

-- made anew from its addresses, L and T, the address of its word, and what storage has under way; all else is s's
abbrev pub made : ℕ × ℕ → ℕ × ℕ → ℕ → ℕ → ℕ → Bool → Bool → Bool → ℕ → State → State
made (i, j) (u, v) l t wx latch local arriving byte s =
    record {
      i = i;
      j = j;
      u = u;
      v = v;
      l = l;
      t = t;
      d = s.d;
      r = s.r;
      s = s.s;
      g = s.g;
      h = s.h;
      m = s.m;
      n = s.n;
      wx = wx;
      ac = s.ac;
      one_bc = s.one_bc;
      z0 = s.z0;
      allow_write = latch;
      local_selected = local;
      arriving = arriving;
      arriving_byte = byte;
      digit_carry = s.digit_carry;
      invalid = s.invalid;
      fwx = s.fwx;
      owed = s.owed;
    }

-- at another address
abbrev pub placed : ℕ → State → State
placed wx s = made (s.i, s.j) (s.u, s.v) s.l s.t wx s.allow_write s.local_selected s.arriving s.arriving_byte s

-- there with the latch off, nothing arriving, main selected
abbrev pub idle : ℕ → State → State
idle wx s = made (s.i, s.j) (s.u, s.v) s.l s.t wx false false false 0 s

-- ---- the store has a program's words

-- a word of the store, by its fields
pub record Holds (store : List ℕ) (a : ℕ) (f : Fields) : Type 0 where
  pub inside : leb (length store) a ≡ false
  pub word : packed f a ≡ Ok (get_or store a 0)

abbrev pub fields_at : List Microword → ℕ → Fields
fields_at program a = (microword_at program a).fields

-- the words of these addresses
abbrev pub Has : List ℕ → List Microword → List ℕ → Type 0
Has store program places = (a : ℕ) → T (among a places) → Holds store a (fields_at program a)

-- all of them
abbrev pub addresses : List Microword → List ℕ
addresses program = map (λ (w : Microword). w.address) program

-- packing gives the word
abbrev gives : Result ℕ Refusal → ℕ → Bool
gives (Ok given) word = eqb given word
gives (Err why) word = false

is_given : (p : Result ℕ Refusal) (word : ℕ) → T (gives p word) → p ≡ Ok word
is_given (Ok given) word t = ap Ok (eqb→eq given word t)
is_given (Err why) word t = absurd t

-- one test to compute
abbrev pub right_word : List ℕ → List Microword → ℕ → Bool
right_word store program a = ltb a (length store) && gives (packed (fields_at program a) a) (get_or store a 0)

abbrev pub right_words : List ℕ → List Microword → List ℕ → Bool
right_words store program [] = true
right_words store program (a ∷ places) = right_word store program a && right_words store program places

-- what holds of each address of a list
each_of : (P : ℕ → Bool) (x a : ℕ) (places : List ℕ) → T (P x) → (T (among a places) → T (P a)) → T (eqb a x || among a places) → T (P a)
each_of P x a places p rest h = by (eqb a x) refl h
  where
    by : (e : Bool) → eqb a x ≡ e → T (e || among a places) → T (P a)
    by true e h = subst (λ (k : ℕ). T (P k)) (sym (eqb-true a x e)) p
    by false e h = rest h

right_at : (store : List ℕ) (program : List Microword) (places : List ℕ) → T (right_words store program places) → (a : ℕ) → T (among a places) → T (right_word store program a)
right_at store program [] t a h = absurd h
right_at store program (x ∷ places) t a h =
    let (one, rest) = and_yes (right_word store program x) (right_words store program places) t in
    each_of (right_word store program) x a places one (right_at store program places rest a) h

pub has : (store : List ℕ) (program : List Microword) (places : List ℕ) → T (right_words store program places) → Has store program places
has store program places t a h =
    let f : Fields = fields_at program a in
    let (inside, given) = and_yes (ltb a (length store)) (gives (packed f a) (get_or store a 0)) (right_at store program places t a h) in
    record { inside = lt-leb (length store) a (ltb→lt a (length store) inside); word = is_given (packed f a) (get_or store a 0) given }

-- ---- one word

-- "the shipped programs are run under basic"
abbrev pub basic : Fence → List ℕ → Cycle
basic fence store = cycle_in fence Basic store

-- the state that it leaves
abbrev pub state_after : Fields → Machine → State
state_after f m = after_fields Basic f m.main m.local m.state

-- and main storage
abbrev pub main_left : Fields → Machine → List ℕ
main_left f m = main_after m.main (access_in f m.state) (entered f m.state).r

-- and the machine, with this in main storage
abbrev pub leaving : Fields → Machine → List ℕ → Machine
leaving f m main = machine (state_after f m) main (local_after m.local (access_in f m.state) (entered f m.state).r)

T_true : (b : Bool) → T b → b ≡ true
T_true true t = refl
T_true false t = absurd t

none_is : (k : Option ℕ) → T (is_none k) → k ≡ None
none_is None t = refl
none_is (Some place) t = absurd t

-- it neither stops nor is refused by 10
abbrev runs_on : Fields → Bool
runs_on f = not (stops f) && is_none (unmodelled_of Basic f)

module _ (fence : Fence) (store : List ℕ) (a : ℕ) (f : Fields) (w : Holds store a f) (m : Machine) (right : Right store m) (here : m.state.wx ≡ a) where
  by_fields : step_of fence Basic f m.main m.local m.state ≡ cycle_in fence Basic store m.main m.local m.state
  by_fields =
      on_apart fence Basic store m.main m.local m.state right (rw here w.inside) f
      (rw here (packed_apart f a (get_or store a 0) w.word))

  runs : T (runs_on f) → outside fence (length m.main) (access_in f m.state) ≡ false → Leads (basic fence store) m (leaving f m (main_left f m))
  unfolding ran_of
  runs t o =
      let (going, modelled) = and_yes (not (stops f)) (is_none (unmodelled_of Basic f)) t in
      sym (on_ran fence Basic f m.main m.local m.state (not-true (stops f) (T_true (not (stops f)) going)) (none_is (unmodelled_of Basic f) modelled) o) ∙ by_fields

  pub halts : T (stops f) → Halts (basic fence store) m
  halts t = sym (on_stop fence Basic f m.main m.local m.state (T_true (stops f) t)) ∙ by_fields

-- ---- words in a row

-- the machine at an address
abbrev there : ℕ → Machine → Machine
there a m = machine (placed a m.state) m.main m.local

-- a word by its address: it runs, or runs and puts back in main storage the byte that stands there
pub data Turn : Type 0 where
  run : ℕ → Turn
  back : ℕ → Turn

module _ (program : List Microword) where
  abbrev ran : ℕ → Machine → Machine
  ran a m = leaving (fields_at program a) (there a m) (main_left (fields_at program a) (there a m))

  abbrev put_back : ℕ → Machine → Machine
  put_back a m = leaving (fields_at program a) (there a m) m.main

  -- the machine after some words
  abbrev pub walked : List Turn → Machine → Machine
  walked [] m = m
  walked (run a ∷ ws) m = walked ws (ran a m)
  walked (back a ∷ ws) m = walked ws (put_back a m)

  -- the machine has come to a word, and what that finds in storage is inside
  abbrev Comes : Fence → ℕ → Machine → Type 0
  Comes fence a m = (m.state.wx ≡ a) × (outside fence (length m.main) (access_in (fields_at program a) (placed a m.state)) ≡ false)

  -- so it is with each of them
  abbrev pub Way : Fence → List Turn → Machine → Type 0
  Way fence [] m = Unit {0}
  Way fence (run a ∷ ws) m = Comes fence a m × Way fence ws (ran a m)
  Way fence (back a ∷ ws) m = Comes fence a m × (main_left (fields_at program a) (there a m) ≡ m.main) × Way fence ws (put_back a m)

  abbrev going : List ℕ → ℕ → Bool
  going places a = among a places && runs_on (fields_at program a)

  abbrev pub all_going : List ℕ → List Turn → Bool
  all_going places [] = true
  all_going places (run a ∷ ws) = going places a && all_going places ws
  all_going places (back a ∷ ws) = going places a && all_going places ws

abbrev pub turns : List Turn → ℕ
turns [] = 0
turns (w ∷ ws) = suc (turns ws)

module _ (fence : Fence) (store : List ℕ) (program : List Microword) (places : List ℕ) (w : Has store program places) where
  one_turn : (a : ℕ) → T (going program places a) → (m : Machine) → Right store m → Comes program fence a m → (main : List ℕ) → main_left (fields_at program a) (there a m) ≡ main
      → Leads (basic fence store) m (leaving (fields_at program a) (there a m) main)
  one_turn a t m right (come, inside) main e =
      let f : Fields = fields_at program a in
      let x : Machine = there a m in
      let (placed-there, going) = and_yes (among a places) (runs_on f) t in
      subst (λ (s : State). Leads (basic fence store) (machine s m.main m.local) (leaving f x main)) (λ i. placed (sym come i) m.state)
      (ap (λ (l : List ℕ). outcome (C.Ran (state_after f x)) l (leaving f x main).local) (sym e) ∙ runs fence store a f (w a placed-there) x right refl going inside)

  pub walk : (ws : List Turn) → T (all_going program places ws) → (m : Machine) → Right store m → Way program fence ws m → Goes (basic fence store) (turns ws) m (walked program ws m)
  walk [] t m right way = here
  walk (run a ∷ ws) t m right (comes, rest) =
      let (on, more) = and_yes (going program places a) (all_going program places ws) t in
      let one = one_turn a on m right comes (main_left (fields_at program a) (there a m)) refl in
      next one (walk ws more (ran program a m) (goes_right (lawful fence Basic store) (next one here) right) rest)
  walk (back a ∷ ws) t m right (comes, stands, rest) =
      let (on, more) = and_yes (going program places a) (all_going program places ws) t in
      let one = one_turn a on m right comes m.main stands in
      next one (walk ws more (put_back program a m) (goes_right (lawful fence Basic store) (next one here) right) rest)

  pub stop : (a : ℕ) → T (among a places && stops (fields_at program a)) → (m : Machine) → Right store m → m.state.wx ≡ a → Halts (basic fence store) m
  stop a t m right come =
      let (placed-there, stopping) = and_yes (among a places) (stops (fields_at program a)) t in
      halts fence store a (fields_at program a) (w a placed-there) m right come stopping

-- ---- a run

-- that comes to a stop within its budget
pub run_stops : (fence : Fence) (store : List ℕ) (budget k : ℕ) (s : State) (main local : List ℕ) (x : Machine) → Right store (machine s main local) → budget ≤ 1000000
    → Goes (basic fence store) k (machine s main local) x → Halts (basic fence store) x → k < budget → run_in budget fence Basic store main local s ≡ ended Stopped x.state k x.main x.local
run_stops fence store budget k s main local x right most g h less =
    sym (right_begins (basic fence store) store (machine s main local) right budget most) ∙ ends g budget Stopped (less, h)
