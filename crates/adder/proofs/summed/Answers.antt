-- `adder::summed` meets its contract. Assumes nothing.
use mathlib.Core.Path.{refl}
use Rattle.adder.specs.Adder.{summed}
use Rattle.adder.proofs.summed.Goals as goal

pub returns : goal.returns
unfolding summed
returns c = refl
