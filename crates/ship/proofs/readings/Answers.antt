-- The numerals are what packing the listed fields gives: one computed test. Assumes nothing.
use mathlib.Core.Path.{refl}
use Rattle.word.specs.Word.{packed, in_width}
use lib.Count.{ones}
use Rattle.ship.specs.Readings.{readings}
use Rattle.ship.proofs.readings.Goals as goal

pub returns : goal.returns
unfolding readings packed in_width ones
returns c = refl
