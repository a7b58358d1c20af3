-- 19, then the turn. Assumes nothing.
use mathlib.Core.Path.{◌∙◌}
use Rattle.session.specs.Turn.{turn_of}
use Rattle.panel.specs.Answers.{reading_of}
use Rattle.panel.proofs.Calls.{call_short, call_is}
use Rattle.panel.proofs.panel_turn.Goals as goal

pub returns-then-state-lt-STATE : goal.returns-then-state-lt-STATE
returns-then-state-lt-STATE c =
    let a = c.args in
    call_short (turn_of (record { start = a.start; end = a.end }) (record { start = a.other_start; end = a.other_end }) (reading_of a.reading) a.store.now a.main.now a.local.now) _ _ _ _ c.if-state-lt-STATE.true c.refused.ensures

pub returns : goal.returns
returns c =
    let a = c.args in
    call_is (turn_of (record { start = a.start; end = a.end }) (record { start = a.other_start; end = a.other_end }) (reading_of a.reading) a.store.now a.main.now a.local.now) _ _ _ c.if-state-lt-STATE.false _ _ _ _ _
    (c.turn-answer.ensures ∙ (λ i. turn_of (record { start = a.start; end = a.end }) (record { start = a.other_start; end = a.other_end }) (c.reading_of.ensures i) a.store.now a.main.now a.local.now (c.loaded-now.ensures i))) c.tell.ensures
