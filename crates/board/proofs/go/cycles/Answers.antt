-- What is left of the run stands for the whole; what is shown changes nothing of it. Assumes nothing.
use Rattle.std.proofs.Common.{◌≡◌, sym, refl, ◌∙◌, arith}
use Rattle.run.proofs.Runs.{on_spent, on_answer}
use Rattle.board.proofs.go.cycles.Goals as goal

pub loop-count-preserved : goal.loop-count-preserved
loop-count-preserved c =
    let at = c.loop-count in (
      c.cycle.auto.main ∙ at.invariant.0,
      c.cycle.auto.local ∙ at.invariant.1,
      sym (on_answer _ _ _ _ _ _ _ _ _ _ c.loop-count-test.true c.cycle.ensures c.in-Ran.is) ∙ at.invariant.2,
    )

pub returns-in-Stopped : goal.returns-in-Stopped
returns-in-Stopped c = sym (on_answer _ _ _ _ _ _ _ _ _ _ c.loop-count-test.true c.cycle.ensures c.in-Stopped.is) ∙ c.loop-count.invariant.2

pub returns-in-Refused : goal.returns-in-Refused
returns-in-Refused c = sym (on_answer _ _ _ _ _ _ _ _ _ _ c.loop-count-test.true c.cycle.ensures c.in-Refused.is) ∙ c.loop-count.invariant.2

pub returns : goal.returns
returns c =
    let all : c.loop-count.count ≡ c.args.budget = omega (arith, c.loop-count-test.false) in
    sym (on_spent c.args.budget c.args.budget _ _ _ _ refl) ∙ (rw all at c.loop-count.invariant.2)
