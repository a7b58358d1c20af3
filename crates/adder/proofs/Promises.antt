-- No second answer fits. The promises name no correction, so the sum by table is the sum by rule. Assumes nothing.
use mathlib.Core.Path.{◌≡◌}
use Rattle.digits.proofs.Sole.{sole}
use Rattle.adder.specs.declared.Sum.{Sum}
use Rattle.adder.specs.declared.Work.{Work}
use Rattle.adder.proofs.add.Reads as add
use Rattle.adder.proofs.work_of.Reads as work

pub add_sole : (κs : _) (args : _) (r s : Sum) (x y : _) → add.Post κs args r x → add.Post κs args s y → r ≡ s
add_sole κs args r s x y p q = sole p q

pub work_sole : (κs : _) (args : _) (r s : Work) (x y : _) → work.Post κs args r x → work.Post κs args s y → r ≡ s
work_sole κs args r s x y p q = sole p q
