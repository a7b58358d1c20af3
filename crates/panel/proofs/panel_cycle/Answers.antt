-- 19, then the cycle. Assumes nothing.
use mathlib.Core.Path.{◌∙◌}
use Rattle.machine.specs.Cycle.{cycle_in, cycle_of}
use Rattle.panel.specs.Answers.{reading_of}
use Rattle.panel.proofs.Calls.{call_short, call_is}
use Rattle.panel.proofs.panel_cycle.Goals as goal

pub returns-then-state-lt-STATE : goal.returns-then-state-lt-STATE
returns-then-state-lt-STATE c =
    let a = c.args in
    call_short (cycle_of (reading_of a.reading) a.store.now a.main.now a.local.now) _ _ _ _ c.if-state-lt-STATE.true c.refused.ensures

pub returns : goal.returns
returns c =
    let a = c.args in
    call_is (cycle_of (reading_of a.reading) a.store.now a.main.now a.local.now) _ _ _ c.if-state-lt-STATE.false _ _ _ _ _
    (c.one-answer.ensures ∙ (λ i. cycle_in (c.whole.ensures i) (c.reading_of.ensures i) a.store.now a.main.now a.local.now (c.loaded-now.ensures i))) c.tell.ensures
