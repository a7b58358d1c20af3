-- Every row of the starred table holds. Assumes nothing.
use mathlib.Core.Path.{refl}
use lib.Count.{ones}
use Rattle.word.specs.Word.{packed, in_width, taken_apart}
use Rattle.adder.specs.Adder.{summed, result_of, sum_of}
use Rattle.digits.specs.Table.{Each}
use Rattle.numbers.specs.Starred.{Holds, rows}

pub starred : Each Holds rows
unfolding packed in_width taken_apart ones sum_of summed result_of
starred = (refl, (refl, ((refl, refl), ((refl, refl), ((refl, refl), ((refl, refl), ((refl, refl), (refl, (refl, ((refl, refl), ((refl, refl), tt)))))))))))
