-- By the answer. Assumes nothing.
use Rattle.lamps.specs.Ending.{trapped_of}
use Rattle.lamps.proofs.endings.trapped.Goals as goal

pub returns-in-Ok : goal.returns-in-Ok
unfolding trapped_of
returns-in-Ok c = rw c.in-Ok.is (rw c.taken.ensures at c.put.ensures)

pub returns-in-Err : goal.returns-in-Err
unfolding trapped_of
returns-in-Err c = rw c.in-Err.is (rw c.number.ensures at c.refused.ensures)
