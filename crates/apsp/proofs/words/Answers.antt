-- The numerals are what packing the listed fields gives: one computed test. Assumes nothing.
use mathlib.Core.Path.{refl}
use Rattle.word.specs.Word.{packed, in_width}
use lib.Count.{ones}
use Rattle.apsp.specs.Program.{signed_words}
use Rattle.apsp.proofs.words.Goals as goal

pub returns : goal.returns
unfolding signed_words packed in_width ones
returns c = refl
