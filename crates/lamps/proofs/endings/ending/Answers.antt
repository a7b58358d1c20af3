-- By the ending. Assumes nothing.
use Rattle.lamps.specs.Ending.{ending_of}
use Rattle.lamps.proofs.endings.ending.Goals as goal

pub returns-in-Stopped : goal.returns-in-Stopped
unfolding ending_of
returns-in-Stopped c = rw c.in-Stopped.is c.standing.ensures

pub returns-in-Refused : goal.returns-in-Refused
unfolding ending_of
returns-in-Refused c = rw c.in-Refused.is (rw (c.number.ensures, c.field.ensures) at c.refused.ensures)

pub returns-in-Spent : goal.returns-in-Spent
unfolding ending_of
returns-in-Spent c = rw c.in-Spent.is c.standing-in-Spent.ensures
