-- The return word: what a trap and a return word leave. Assumes nothing.
use Rattle.std.specs.Prelude.{ℕ, ◌≡◌, List, [], ◌∷◌, Bool, true, false, not, ◌&&◌, eqb, Ok}
use Rattle.word.specs.Layout.{fields_of}
use Rattle.word.specs.Parity.{is_return}
use Rattle.word.specs.declared.Fields.{Fields}
use Rattle.codes.specs.declared.Reading.{Reading}
use Rattle.storage.specs.declared.Fence.{Fence}
use Rattle.machine.specs.Sources.{entered}
use Rattle.machine.specs.Status.{saves}
use Rattle.machine.specs.Cycle.{Outcome, outcome, word_at, ran_of, cycle_in}
use Rattle.machine.specs.declared.State.{State}
use Rattle.machine.specs.declared.Cycled.{Cycled}
use Rattle.machine.specs.declared.Cycled.TheVariants as C
use Rattle.trap.specs.Trap.{standing_at, trap_of}

-- ---- in whichever cycle

-- the word that would run next is a return word
abbrev pub returns_next : List ℕ → State → Bool
returns_next store s = is_return (fields_of (word_at store s))

-- "restore it as the next WX"; "The return word closes the trap."; "a return with none owed loads it as it stands"
pub record Returned (s u : State) : Type 0 where
  pub next : u.wx ≡ s.fwx
  pub held : u.fwx ≡ s.fwx
  pub closed : u.owed ≡ false

-- FWX and the latch are as they were
pub record StillOpen (s u : State) : Type 0 where
  pub held : u.fwx ≡ s.fwx
  pub owed : u.owed ≡ s.owed

-- a cycle that ran, by whether its word is a return word
abbrev pub Returns : Type 0
Returns =
    (fence : Fence) (reading : Reading) (store main local : List ℕ) (s u : State)
    → (cycle_in fence reading store main local s).answer ≡ C.Ran u
    → (returns_next store s ≡ true → Returned s u) × (returns_next store s ≡ false → StillOpen s u)

-- ---- "A trap then return word resumes at the very word broken into"

-- what a cycle left, but that it stands at this address, and no return is owed
abbrev pub resumed_at : ℕ → Cycled → Cycled
resumed_at wx (C.Ran u) = C.Ran (standing_at wx wx false u)
resumed_at wx (C.Stopped u) = C.Stopped u
resumed_at wx (C.Refused u refusal) = C.Refused u refusal

-- all else is what the fields of the return word do to the state broken into
abbrev pub TrapReturns : Type 0
TrapReturns =
    (fence : Fence) (reading : Reading) (store main local : List ℕ) (address : ℕ) (s t u : State) (o : Outcome Cycled)
    → trap_of address s ≡ Ok t
    → returns_next store t ≡ true
    → (cycle_in fence reading store main local t).answer ≡ C.Ran u
    → o ≡ ran_of reading (fields_of (word_at store t)) main local s
    → cycle_in fence reading store main local t ≡ outcome (resumed_at s.wx o.answer) o.main o.local

-- "I J U V L T D R S G H M N"
abbrev pub registers_of : State → List ℕ
registers_of s = s.i ∷ s.j ∷ s.u ∷ s.v ∷ s.l ∷ s.t ∷ s.d ∷ s.r ∷ s.s ∷ s.g ∷ s.h ∷ s.m ∷ s.n ∷ []

-- a word that names no storage, no destination and no status, and saves no carry
abbrev pub changes_none : Fields → Bool
changes_none f = eqb f.cm 1 && (eqb f.cd 0 && (eqb f.cs 0 && not (saves f.cc)))

-- where the return word is such a one, every register is as it was, but that a byte that was arriving is in R; and so are both storages
abbrev pub TrapKeeps : Type 0
TrapKeeps =
    (fence : Fence) (reading : Reading) (store main local : List ℕ) (address : ℕ) (s t u : State)
    → trap_of address s ≡ Ok t
    → returns_next store t ≡ true
    → changes_none (fields_of (word_at store t)) ≡ true
    → (cycle_in fence reading store main local t).answer ≡ C.Ran u
    → (registers_of u ≡ registers_of (entered (fields_of (word_at store t)) s)) × (((cycle_in fence reading store main local t).main ≡ main) × ((cycle_in fence reading store main local t).local ≡ local))
