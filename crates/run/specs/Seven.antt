-- "a store that uses none of these seven codes must run the same under both": document 02, request 7, of a whole run. Assumes nothing.
use Rattle.std.specs.Prelude.{ℕ, ◌≡◌, List, true}
use Rattle.codes.specs.Seven.{uses_none}
use Rattle.codes.specs.declared.Reading.TheVariants.{Basic, Compatibility}
use Rattle.storage.specs.declared.Fence.{Fence}
use Rattle.machine.specs.declared.State.{State}
use Rattle.run.specs.Run.{run_in}

-- its ending with a refusal and 10's field, its state, its count and both storages, whatever the budget
abbrev pub RunAlike : Type 0
RunAlike =
    (budget : ℕ) (fence : Fence) (store main local : List ℕ) (s : State)
    → uses_none store ≡ true
    → run_in budget fence Basic store main local s ≡ run_in budget fence Compatibility store main local s
