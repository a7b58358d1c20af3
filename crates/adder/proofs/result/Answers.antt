-- `adder::result` meets its contract. Assumes nothing.
use borrow.Author.Rules.{rules}
use Rattle.adder.specs.Adder.{result_of}
use Rattle.adder.proofs.result.Goals as goal

pub returns-then-u : goal.returns-then-u
unfolding result_of
returns-then-u c = rw c.if-u.true c.corrected.ensures

pub returns-else-u : goal.returns-else-u
unfolding result_of
returns-else-u c = search rules
