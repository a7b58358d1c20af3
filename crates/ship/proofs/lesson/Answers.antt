-- The shipped words in front, and two numerals that packing gives. Assumes nothing.
use mathlib.Core.Path.{◌∙◌}
use lib.Count.{ones}
use lib.ListN.{replicate, set}
use Rattle.digits.specs.Lent.{copied}
use Rattle.word.specs.Word.{packed, in_width}
use Rattle.decimal.specs.Program.{shipped}
use Rattle.ship.specs.Lesson.{lesson}
use Rattle.ship.proofs.lesson.Goals as goal

pub returns : goal.returns
unfolding lesson shipped packed in_width ones
returns c =
    let words = c.words.ensures in
    let front = c.copy.ensures ∙ (λ i. copied (words i) (replicate 23 0)) in
    λ i. set (set (front i) 21 0x0B0812801A6040) 22 0x01001D00100001
