-- 19, then the work, or 1. Assumes nothing.
use mathlib.Core.Path.{ap, ◌∙◌}
use Rattle.panel.specs.Answers.{answered}
use Rattle.panel.proofs.Calls.{next_short, next_is}
use Rattle.panel.proofs.panel_next_sum.Goals as goal

pub returns-then-state-work : goal.returns-then-state-work
returns-then-state-work c = next_short _ _ _ _ c.number_of.ensures.0 c.if-state-work.true

pub returns-in-Some : goal.returns-in-Some
returns-in-Some c =
    ap (answered 0) c.save_work.ensures
    ∙ next_is _ _ _ c.if-state-work.false _ _ _ c.loaded.ensures c.next_sum.ensures c.in-Some.is

pub returns-in-None : goal.returns-in-None
returns-in-None c = next_is _ _ _ c.if-state-work.false _ _ _ c.loaded.ensures c.next_sum.ensures c.in-None.is
