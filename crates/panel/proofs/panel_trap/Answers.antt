-- 19, then the trap. Assumes nothing.
use Prim.Native.Nat.{ℕ}
use mathlib.Core.Path.{ap, ◌∙◌}
use Rattle.panel.specs.Answers.{answered}
use Rattle.panel.proofs.Calls.{trap_short, trap_is}
use Rattle.panel.proofs.panel_trap.Goals as goal

pub returns-then-state-lt-STATE : goal.returns-then-state-lt-STATE
returns-then-state-lt-STATE c = trap_short _ _ _ c.number_of.ensures.0 c.if-state-lt-STATE.true

pub returns-in-Ok : goal.returns-in-Ok
returns-in-Ok c =
    ap (answered 0) c.place.ensures
    ∙ trap_is _ _ c.if-state-lt-STATE.false _ _ _ c.loaded.ensures c.trap.ensures c.in-Ok.is

pub returns-in-Err : goal.returns-in-Err
returns-in-Err c =
    ap (λ (n : ℕ). answered n c.args.state.now) c.number_of-in-Err.ensures.0 ∙ trap_is _ _ c.if-state-lt-STATE.false _ _ _ c.loaded.ensures c.trap.ensures c.in-Err.is
