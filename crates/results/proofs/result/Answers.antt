-- By the answer. Assumes nothing.
use Rattle.results.specs.Results.{result_of}
use Rattle.results.proofs.result.Goals as goal

pub returns-in-Summed : goal.returns-in-Summed
unfolding result_of
returns-in-Summed c = rw c.in-Summed.is c.summed.ensures

pub returns-in-BadDigit : goal.returns-in-BadDigit
unfolding result_of
returns-in-BadDigit c = rw c.in-BadDigit.is c.bad.ensures

pub returns-in-Refused : goal.returns-in-Refused
unfolding result_of
returns-in-Refused c = rw (c.in-Refused.is, ← c.number.ensures) c.refusal.ensures
