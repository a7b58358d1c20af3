-- Demand 3 "with 'inside its fence' for 'inside main storage'". Assumes nothing.
use Rattle.std.specs.Prelude.{ℕ, ◌<◌, ◌≡◌, List, [], ◌∷◌, Bool, length, Ok, None}
use Rattle.digits.specs.Refusal.{Check, first}
use Rattle.digits.specs.Sizes.{storage_wrong}
use Rattle.digits.specs.declared.refusal.Refusal.{Refusal}
use Rattle.digits.specs.declared.refusal.Refusal.TheVariants as R
use Rattle.codes.specs.declared.Reading.{Reading}
use Rattle.codes.specs.declared.Reading.TheVariants.{Basic}
use Rattle.storage.specs.Storage.{bytes_in}
use Rattle.storage.specs.declared.Fence.{Fence}
use Rattle.machine.specs.Cycle.{Outcome}
use Rattle.machine.specs.declared.State.{State}
use Rattle.machine.specs.declared.Cycled.TheVariants as C
use Rattle.run.specs.Run.{ended, run_in}
use Rattle.run.specs.declared.Ending.TheVariants.{Stopped}
use Rattle.decimal.specs.Program.{shipped}
use Rattle.decimal.specs.Entry.{field_checks, start, run_for, answered_at, SUMMED, entry_by}
use Rattle.decimal.specs.Promise.{cycles_in, PromiseBy}
use Rattle.decimal.specs.declared.Added.{Added}
use Rattle.session.specs.Opening.{fence_wrong, open_of}
use Rattle.session.specs.Boards.{Own, own, Session, fence_of, own_of}
use Rattle.session.specs.Isolation.{Shown, all_shown, turns_alone}
use Rattle.session.specs.declared.Board.{Board}

-- ---- the entry

-- 1, "then 32 for a fence that is empty or reaches outside, 12, 13 by the fence, 14"
abbrev pub fenced_add_checks : Fence → ℕ → ℕ → ℕ → ℕ → ℕ → List (Check Refusal)
fenced_add_checks fence main local a b n = (R.Size, storage_wrong main local) ∷ (R.Fence, fence_wrong main fence) ∷ field_checks fence main a b n

unfoldable pub fenced_add : Fence → List ℕ → List ℕ → ℕ → ℕ → ℕ → Bool → Outcome Added
fenced_add fence main local a b n carry =
    entry_by SUMMED (fenced_add_checks fence (length main) (length local) a b n) (run_for fence main local a b n carry) main local

abbrev pub PromiseIn : Fence → List ℕ → List ℕ → ℕ → ℕ → ℕ → Bool → Added → List ℕ → List ℕ → Type 0
PromiseIn fence main local a b n carry r main' local' =
    PromiseBy (fenced_add_checks fence (length main) (length local) a b n) fence main local a b n carry r main' local'

-- ---- in a session

-- the last of what was shown, d where nothing was
abbrev pub last_of : Shown → List Shown → Shown
last_of d [] = d
last_of d (s ∷ ss) = last_of s ss

-- a board whose run in its fence would stop, once an order has given it "those cycles and one turn more for the stop word": it stops there, with
-- what the run leaves in its fence and in its local storage
abbrev pub StopsInSession : Type 0
StopsInSession =
    (x : Board) (turns : List Board) (a b : Fence) (reading : Reading) (store : List ℕ) (w : Session) (budget n : ℕ) (t : State) (main local : List ℕ) (d : Shown)
    → open_of (length w.main) a b ≡ Ok tt
    → run_in budget (fence_of x a b) reading store w.main (own_of x w).local (own_of x w).state ≡ ended Stopped t n main local
    → n < length (turns_alone x turns)
    → last_of d (all_shown x turns a b reading store w) ≡ record { answer = C.Stopped t; own = own t local; bytes = bytes_in (fence_of x a b) main }

-- a board that was started on the shipped words: how it stands in the end, by its fence, its start, and what it last showed
pub record Adds (fence : Fence) (mine : Own) (main : List ℕ) (a b n : ℕ) (carry : Bool) (last : Shown) : Type 0 where
  pub stopped : last.answer ≡ C.Stopped last.own.state
  -- the fence has what the entry leaves there, and the ending, the carry and local storage are the entry's
  pub cycles : ℕ
  pub left : List ℕ
  pub bytes : last.bytes ≡ bytes_in fence left
  pub promise : PromiseIn fence main mine.local a b n carry (answered_at SUMMED (record { ending = Stopped; state = last.own.state; count = cycles })) left last.own.local

-- in any order, beside a board that does what it likes: "its cycles are that board's own"
abbrev pub AddsInSession : Type 0
AddsInSession =
    (x : Board) (turns : List Board) (fence-a fence-b : Fence) (w : Session) (a b n : ℕ) (carry : Bool) (d : Shown)
    → let fence : Fence = fence_of x fence-a fence-b in let mine : Own = own_of x w in
    open_of (length w.main) fence-a fence-b ≡ Ok tt
    → mine.state ≡ start a b n carry
    → first (fenced_add_checks fence (length w.main) (length mine.local) a b n) ≡ None
    → cycles_in (fenced_add fence w.main mine.local a b n carry).answer < length (turns_alone x turns)
    → Adds fence mine w.main a b n carry (last_of d (all_shown x turns fence-a fence-b Basic shipped w))
