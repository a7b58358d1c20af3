-- The fields of a word that is taken apart are in their widths. Assumes nothing.
use mathlib.Core.Path.{◌≡◌, sym, ap, ◌∙◌}
use Rattle.std.specs.Prelude.{Some, Ok, Err, Result}
use Rattle.std.specs.Result.{result_ok}
use Rattle.digits.specs.declared.refusal.Refusal.{Refusal}
use Rattle.digits.proofs.Refusals.{some_inj, some_not_none}
use Rattle.word.specs.declared.Fields.{Fields}
use Rattle.word.proofs.Trips.{apart_fields}
use Rattle.machine.proofs.Cycles.{fields_small}
use Rattle.machine.proofs.next_sum.Goals as goal

is_ok : (r : Result Fields Refusal) (f : Fields) → result_ok r ≡ Some f → r ≡ Ok f
is_ok (Ok g) f e = ap Ok (some_inj e)
is_ok (Err q) f e = absurd (some_not_none (sym e))

pub sum_of-requires : goal.sum_of-requires
sum_of-requires c = (fields_small _ _ (sym (apart_fields _ _ _ (sym c.take_apart.ensures ∙ is_ok _ _ (sym c.in_ok-f.ensures.value))).1)).1
