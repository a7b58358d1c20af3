-- "a board's states, answers and bytes within its fence are those it would have alone, whatever order and whatever the other does". Assumes
-- nothing.
use Rattle.std.specs.Prelude.{ℕ, ◌≡◌, List, [], ◌∷◌, Bool, true, false, cond, get_or}
use Rattle.codes.specs.declared.Reading.{Reading}
use Rattle.storage.specs.Storage.{Beyond, bytes_in}
use Rattle.storage.specs.declared.Fence.{Fence}
use Rattle.machine.specs.declared.Cycled.{Cycled}
use Rattle.machine.specs.declared.Cycled.TheVariants.{Ran, Stopped, Refused}
use Rattle.session.specs.Boards.{Own, Session, other, fence_of, own_of, Turned, turned_of, after_turns}
use Rattle.session.specs.declared.Board.{Board}
use Rattle.session.specs.declared.Board.TheVariants.{A, B}

abbrev pub same : Board → Board → Bool
same A A = true
same A B = false
same B A = false
same B B = true

-- what a board has to show after a turn
pub record Shown : Type 0 where
  pub answer : Cycled
  pub own : Own
  pub bytes : List ℕ

abbrev pub shown_by : Board → Fence → Fence → Turned → Shown
shown_by x a b t = record { answer = t.answer; own = own_of x t.after; bytes = bytes_in (fence_of x a b) t.after.main }

-- after each of its turns
unfoldable pub all_shown : Board → List Board → Fence → Fence → Reading → List ℕ → Session → List Shown
all_shown x [] a b reading store w = []
all_shown x (y ∷ ys) a b reading store w =
    let t : Turned = turned_of y a b reading store w in
    let later : List Shown = all_shown x ys a b reading store t.after in
    cond (same x y) (shown_by x a b t ∷ later) later

-- "alone": the same turns with the other's left out
abbrev pub turns_alone : Board → List Board → List Board
turns_alone x [] = []
turns_alone x (y ∷ ys) = cond (same x y) (y ∷ turns_alone x ys) (turns_alone x ys)

-- for every store, storages, states, fences and turns, stops and refusals included; "the store fixed during the session"
abbrev pub Isolated : Type 0
Isolated =
    (x : Board) (turns : List Board) (a b : Fence) (reading : Reading) (store : List ℕ) (w : Session)
    → all_shown x turns a b reading store w ≡ all_shown x (turns_alone x turns) a b reading store w

-- and in the end, whoever took the last turns
pub record EndsAlone (x : Board) (a b : Fence) (together apart : Session) : Type 0 where
  pub own : own_of x together ≡ own_of x apart
  pub bytes : bytes_in (fence_of x a b) together.main ≡ bytes_in (fence_of x a b) apart.main

abbrev pub IsolatedInTheEnd : Type 0
IsolatedInTheEnd =
    (x : Board) (turns : List Board) (a b : Fence) (reading : Reading) (store : List ℕ) (w : Session)
    → EndsAlone x a b (after_turns turns a b reading store w) (after_turns (turns_alone x turns) a b reading store w)

-- a turn changes only that board's state and local storage, and main bytes inside its fence
abbrev pub TurnKeeps : Type 0
TurnKeeps =
    (x : Board) (a b : Fence) (reading : Reading) (store : List ℕ) (w : Session)
    → let v : Session = (turned_of x a b reading store w).after in
    (own_of (other x) v ≡ own_of (other x) w) × ((i : ℕ) → Beyond (fence_of x a b) i → get_or v.main i 0 ≡ get_or w.main i 0)

-- a turn that stops or is refused leaves the whole session as it was
abbrev pub is_ran : Cycled → Bool
is_ran (Ran t) = true
is_ran (Stopped t) = false
is_ran (Refused t r) = false

abbrev pub IdleKeeps : Type 0
IdleKeeps =
    (x : Board) (a b : Fence) (reading : Reading) (store : List ℕ) (w : Session)
    → is_ran (turned_of x a b reading store w).answer ≡ false
    → (turned_of x a b reading store w).after ≡ w

-- what a board's next turn will answer, no turn of the other changes: a board that stopped or was refused does so at each later turn
abbrev pub AnswerStays : Type 0
AnswerStays =
    (x : Board) (a b : Fence) (reading : Reading) (store : List ℕ) (w : Session)
    → (turned_of x a b reading store (turned_of (other x) a b reading store w).after).answer ≡ (turned_of x a b reading store w).answer

-- main bytes in neither fence never change
abbrev pub NeitherChanges : Type 0
NeitherChanges =
    (turns : List Board) (a b : Fence) (reading : Reading) (store : List ℕ) (w : Session) (i : ℕ)
    → Beyond a i
    → Beyond b i
    → get_or (after_turns turns a b reading store w).main i 0 ≡ get_or w.main i 0
