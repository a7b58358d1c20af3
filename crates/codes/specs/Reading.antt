-- "A store carries a reading, basic or compatibility.": document 02, request 7. Assumes nothing.
use Rattle.std.specs.Prelude.{Bool, true, false, cond}
use Rattle.codes.specs.declared.Reading.{Reading}
use Rattle.codes.specs.declared.Reading.TheVariants.{Basic, Compatibility}

abbrev pub is_basic : Reading → Bool
is_basic Basic = true
is_basic Compatibility = false

-- what a table has at a code where the readings differ: in basic, in compatibility
abbrev pub by : {A : Type 0} → Reading → A → A → A
by reading basic compatibility = cond (is_basic reading) basic compatibility
