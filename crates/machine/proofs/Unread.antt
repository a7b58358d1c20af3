-- No branch, no source and no check reads the two lamps. Assumes nothing.
use Prim.Native.Nat.{ℕ}
use mathlib.Core.Path.{◌≡◌, refl, ap, ◌∙◌}
use mathlib.Core.List.{List}
use mathlib.Core.Bool.{Bool, true, false}
use Rattle.std.specs.Prelude.{Option, Some, None}
use Rattle.digits.specs.Refusal.{first}
use Rattle.digits.specs.declared.refusal.Refusal.{Refusal}
use Rattle.word.specs.Layout.{fields_of}
use Rattle.word.specs.declared.Fields.{Fields}
use Rattle.codes.specs.declared.Reading.{Reading}
use Rattle.machine.specs.Sources.{entered, sum_in}
use Rattle.machine.specs.Branch.{next_of}
use Rattle.storage.specs.Storage.{access_of}
use Rattle.machine.specs.Cycle.{Outcome, outcome, stops, cycle_checks, word_at, ran_of, decided, cycle_in}
use Rattle.machine.specs.Unread.{with_lamps, answer_with, CycleUnread}
use Rattle.machine.specs.declared.State.{State}
use Rattle.machine.specs.declared.Cycled.{Cycled}

abbrev outcome_with : Bool → Bool → Outcome Cycled → Outcome Cycled
outcome_with carry invalid o = outcome (answer_with carry invalid o.answer) o.main o.local

module _ (reading : Reading) (carry invalid : Bool) (f : Fields) (main local : List ℕ) (s : State) where
  ran_unread : outcome_with carry invalid (ran_of reading f main local s) ≡ ran_of reading f main local (with_lamps carry invalid s)
  unfolding ran_of entered sum_in next_of access_of
  ran_unread = refl

  decided_unread : (k : Option Refusal) (stop : Bool) → outcome_with carry invalid (decided reading k stop f main local s) ≡ decided reading k stop f main local (with_lamps carry invalid s)
  decided_unread (Some r) stop = refl
  decided_unread None true = refl
  decided_unread None false = ran_unread

pub cycle_unread : CycleUnread
unfolding cycle_in entered access_of
cycle_unread fence reading store main local s carry invalid o e =
    let f : Fields = fields_of (word_at store s) in
    ap (outcome_with carry invalid) e
    ∙ decided_unread reading carry invalid f main local s (first (cycle_checks fence reading store main local s)) (stops f)
