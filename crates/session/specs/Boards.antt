-- A session: both boards, and the turns that the caller names. Assumes nothing.
use Rattle.std.specs.Prelude.{ℕ, List, [], ◌∷◌}
use Rattle.codes.specs.declared.Reading.{Reading}
use Rattle.storage.specs.declared.Fence.{Fence}
use Rattle.machine.specs.Cycle.{Outcome}
use Rattle.machine.specs.declared.State.{State}
use Rattle.machine.specs.declared.Cycled.{Cycled}
use Rattle.session.specs.Turn.{turn_of, state_in}
use Rattle.session.specs.declared.Board.{Board}
use Rattle.session.specs.declared.Board.TheVariants.{A, B}

-- "separate registers and local storage"
pub record Own : Type 0 where
  pub state : State
  pub local : List ℕ

abbrev pub own : State → List ℕ → Own
own state local = record { state = state; local = local }

-- "Two student boards run from .. the same main storage"
pub record Session : Type 0 where
  pub a : Own
  pub b : Own
  pub main : List ℕ

abbrev pub session : Own → Own → List ℕ → Session
session a b main = record { a = a; b = b; main = main }

abbrev pub other : Board → Board
other A = B
other B = A

-- a board's fence, of the two
abbrev pub fence_of : Board → Fence → Fence → Fence
fence_of A a b = a
fence_of B a b = b

-- what is a board's own, and the session in which that, and main storage, are these
abbrev pub own_of : Board → Session → Own
own_of A w = w.a
own_of B w = w.b

abbrev pub with : Board → Own → List ℕ → Session → Session
with A mine main w = session mine w.b main
with B mine main w = session w.a mine main

-- what a turn answered, and the session after it
pub record Turned : Type 0 where
  pub answer : Cycled
  pub after : Session

abbrev pub turned_to : Cycled → Session → Turned
turned_to answer after = record { answer = answer; after = after }

-- the turn of the board that the caller names: "one cycle over the common store and main storage with its own state, local storage and fence"
unfoldable pub turned_of : Board → Fence → Fence → Reading → List ℕ → Session → Turned
turned_of x a b reading store w =
    let mine : Own = own_of x w in
    let o : Outcome Cycled = turn_of (fence_of x a b) (fence_of (other x) a b) reading store w.main mine.local mine.state in
    turned_to o.answer (with x (own (state_in o.answer) o.local) o.main w)

-- "They take cycles in any order the caller names": the session after some turns
unfoldable pub after_turns : List Board → Fence → Fence → Reading → List ℕ → Session → Session
after_turns [] a b reading store w = w
after_turns (x ∷ xs) a b reading store w = after_turns xs a b reading store (turned_of x a b reading store w).after
