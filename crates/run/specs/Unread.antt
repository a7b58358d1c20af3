-- "No branch reads them.": document 02, request 5, of a whole run. Assumes nothing.
use Rattle.std.specs.Prelude.{ℕ, ◌≡◌, List, Bool, cond, eqb}
use Rattle.codes.specs.declared.Reading.{Reading}
use Rattle.storage.specs.declared.Fence.{Fence}
use Rattle.machine.specs.Cycle.{Outcome}
use Rattle.machine.specs.Unread.{with_lamps}
use Rattle.machine.specs.declared.State.{State}
use Rattle.run.specs.Run.{ended, run_in}
use Rattle.run.specs.declared.Finished.{Finished}

-- the run from a state with these two lamps: where no cycle ran they are as they were
abbrev pub run_with : Bool → Bool → Outcome Finished → Outcome Finished
run_with carry invalid r =
    ended r.answer.ending (cond (eqb r.answer.count 0) (with_lamps carry invalid r.answer.state) r.answer.state) r.answer.count r.main r.local

-- two states that differ in these two lamps alone run alike, whatever the budget, so cycle for cycle
abbrev pub RunUnread : Type 0
RunUnread =
    (fence : Fence) (reading : Reading) (budget : ℕ) (store main local : List ℕ) (s : State) (carry invalid : Bool) (r : Outcome Finished)
    → r ≡ run_in budget fence reading store main local s
    → run_with carry invalid r ≡ run_in budget fence reading store main local (with_lamps carry invalid s)
