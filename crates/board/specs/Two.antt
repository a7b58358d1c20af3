-- What `board two` does: turns in an order that is repeated as needed. Assumes nothing.
use Rattle.std.specs.Prelude.{◌≡◌, ℕ, zero, suc, ◌%◌, Bool, cond, ◌||◌, List, [], ◌∷◌, ◌++◌, length, ◌==◌, slice_index}
use Rattle.codes.specs.declared.Reading.{Reading}
use Rattle.storage.specs.declared.Fence.{Fence}
use Rattle.machine.specs.declared.State.{State}
use Rattle.machine.specs.declared.Cycled.{Cycled}
use Rattle.machine.specs.declared.Cycled.TheVariants as C
use Rattle.run.specs.declared.Ending.{Ending}
use Rattle.run.specs.declared.Ending.TheVariants as E
use Rattle.session.specs.Boards.{own, Session, session, other, turned_of}
use Rattle.session.specs.declared.Board.{Board}
use Rattle.session.specs.declared.Board.TheVariants.{A, B}
use Rattle.board.specs.Broken.{is_spent}
use Rattle.board.specs.declared.turns.Played.{Played}

-- the board of a letter, A or a, or else B
abbrev pub is_a : ℕ → Bool
is_a letter = letter == 65 || letter == 97

abbrev pub board_of : ℕ → Board
board_of letter = cond (is_a letter) A B

-- whose turn it is after n turns
abbrev pub board_at : List ℕ → ℕ → Board
board_at order n = board_of (slice_index order (n % length order))

-- the first n turns
unfoldable pub turns_of : ℕ → List ℕ → List Board
turns_of zero order = []
turns_of (suc n) order = turns_of n order ++ (board_at order n ∷ [])

-- how a turn ended; spent, where the board goes on
abbrev pub turn_ending : Cycled → Ending
turn_ending (C.Ran s) = E.Spent
turn_ending (C.Stopped s) = E.Stopped
turn_ending (C.Refused s refusal) = E.Refused refusal

-- how a board's last turn ended
abbrev pub endings : Played → Board → Ending
endings p A = p.a.ending
endings p B = p.b.ending

abbrev pub session_of : Played → List ℕ → List ℕ → List ℕ → Session
session_of p local-a local-b main = session (own p.a.state local-a) (own p.b.state local-b) main

-- before the first turn both go on
pub record Fresh (a b : State) (p : Played) : Type 0 where
  pub of-a : p.a.state ≡ a
  pub of-b : p.b.state ≡ b
  pub endings : (x : Board) → endings p x ≡ E.Spent

-- one turn, and how it ended; or, where the board does not go on, none
pub record Plays (x : Board) (a b : Fence) (reading : Reading) (store : List ℕ) (w v : Session) (before after : Board → Ending) : Type 0 where
  pub session : v ≡ cond (is_spent (before x)) (turned_of x a b reading store w).after w
  pub its : after x ≡ cond (is_spent (before x)) (turn_ending (turned_of x a b reading store w).answer) (before x)
  pub others : after (other x) ≡ before (other x)
