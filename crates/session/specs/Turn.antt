-- One turn: a cycle of one board in its own fence, beside a board with the other. Assumes nothing.
use Rattle.std.specs.Prelude.{ℕ, List, ◌∷◌, length}
use Rattle.digits.specs.Refusal.{Check, first}
use Rattle.digits.specs.Sizes.{sizes_wrong}
use Rattle.digits.specs.declared.refusal.Refusal.{Refusal}
use Rattle.digits.specs.declared.refusal.Refusal.TheVariants as R
use Rattle.word.specs.Layout.{fields_of}
use Rattle.word.specs.declared.Fields.{Fields}
use Rattle.codes.specs.declared.Reading.{Reading}
use Rattle.storage.specs.declared.Fence.{Fence}
use Rattle.machine.specs.Cycle.{Outcome, stops, word_at, next_word_checks, decided}
use Rattle.machine.specs.declared.State.{State}
use Rattle.machine.specs.declared.Cycled.{Cycled}
use Rattle.machine.specs.declared.Cycled.TheVariants.{Ran, Stopped, Refused}
use Rattle.session.specs.Opening.{fences_wrong}

-- 1, then 32, then the cycle's own, 11 by the board's own fence
abbrev pub turn_checks : Fence → Fence → Reading → List ℕ → List ℕ → List ℕ → State → List (Check Refusal)
turn_checks own other reading store main local s =
    (R.Size, sizes_wrong (length store) (length main) (length local)) ∷
    (R.Fence, fences_wrong (length main) own other) ∷
    next_word_checks own reading store (length main) s

unfoldable pub turn_of : Fence → Fence → Reading → List ℕ → List ℕ → List ℕ → State → Outcome Cycled
turn_of own other reading store main local s =
    let f : Fields = fields_of (word_at store s) in
    decided reading (first (turn_checks own other reading store main local s)) (stops f) f main local s

-- "each with its state"
abbrev pub state_in : Cycled → State
state_in (Ran t) = t
state_in (Stopped t) = t
state_in (Refused t r) = t
