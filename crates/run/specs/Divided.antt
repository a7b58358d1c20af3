-- "Budgets may be divided.": document 02, request 14. Assumes nothing.
use Rattle.std.specs.Prelude.{ℕ, ◌+◌, ◌≤◌, ◌≡◌, List, [], ◌∷◌, Bool, false, cond, eqb}
use Rattle.digits.specs.Table.{among, Each}
use Rattle.word.specs.Layout.{fields_of}
use Rattle.codes.specs.declared.Reading.{Reading}
use Rattle.storage.specs.declared.Fence.{Fence}
use Rattle.machine.specs.Cycle.{Outcome}
use Rattle.machine.specs.declared.State.{State}
use Rattle.run.specs.Run.{ended, run_in}
use Rattle.run.specs.declared.Ending.TheVariants.{Spent}
use Rattle.run.specs.declared.Finished.{Finished}

-- two runs, the second of budget b, against the run of their total
pub record Divided (b : ℕ) (first second whole : Outcome Finished) : Type 0 where
  -- "same state, storage and added counts"
  pub state : second.answer.state ≡ whole.answer.state
  pub in_main : second.main ≡ whole.main
  pub in_local : second.local ≡ whole.local
  pub count : first.answer.count + second.answer.count ≡ whole.answer.count
  -- "with the second run's answer, or the first's where the second budget is 0"
  pub ending : cond (eqb b 0) first.answer.ending second.answer.ending ≡ whole.answer.ending
  -- a first run that stopped or was refused ends so again: at the same word, by the same refusal, after no cycle
  pub again : (first.answer.ending ≡ Spent → ⊥) → (b ≡ 0 → ⊥) → second ≡ ended first.answer.ending first.answer.state 0 first.main first.local

-- "over every store and state .. a run of one budget followed by another from where it ended equals a run of their total, when the total is
-- at most 1,000,000". A run is what is promised of `run_in`, in whichever fence, under whichever reading and in whichever library.
abbrev pub BudgetsDivide : Type 0
BudgetsDivide =
    (fence : Fence) (reading : Reading) (a b : ℕ) (store main local : List ℕ) (s : State) (first second whole : Outcome Finished)
    → a + b ≤ 1000000
    → first ≡ run_in a fence reading store main local s
    → second ≡ run_in b fence reading store first.main first.local first.answer.state
    → whole ≡ run_in (a + b) fence reading store main local s
    → Divided b first second whole

-- "CM 0 Write, .. 2 Store"
abbrev pub writes : ℕ → Bool
writes cm = among cm (0 ∷ 2 ∷ [])

-- "a store holding no Write and no Store word": none of its words, accepted or not
abbrev pub Quiet : List ℕ → Type 0
Quiet store = Each (λ (word : ℕ). writes (fields_of word).cm ≡ false) store

-- "leaves all storage as found in every run", whatever its ending
abbrev pub QuietKeeps : Type 0
QuietKeeps =
    (fence : Fence) (reading : Reading) (budget : ℕ) (store main local : List ℕ) (s : State) (whole : Outcome Finished)
    → Quiet store
    → whole ≡ run_in budget fence reading store main local s
    → (whole.main ≡ main) × (whole.local ≡ local)
