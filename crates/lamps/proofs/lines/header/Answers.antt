-- The names, as the list has them. Assumes nothing.
use Rattle.lamps.specs.Line.{header_of}
use Rattle.lamps.proofs.lines.header.Goals as goal

pub returns : goal.returns
unfolding header_of
returns c = c.put.ensures
