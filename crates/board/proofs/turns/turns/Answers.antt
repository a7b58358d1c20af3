-- Before each turn the session is the one after the turns before it. Assumes nothing.
use Rattle.std.proofs.Common.{refl, ◌∙◌}
use Rattle.board.proofs.Passed.{before_all, one_taken}
use Rattle.board.proofs.turns.turns.Goals as goal

pub loop-done-init : goal.loop-done-init
loop-done-init c =
    let a = c.args in
    (refl, refl, refl, before_all a.order.now a.rules.a a.rules.b a.rules.reading a.store.now _ refl c.fresh-p.ensures.endings)

pub loop-done-preserved : goal.loop-done-preserved
loop-done-preserved c =
    let at = c.loop-done in
    let a = c.args in (
      c.take-p.auto.main ∙ at.invariant.0,
      c.take-p.auto.local_a ∙ at.invariant.1,
      c.take-p.auto.local_b ∙ at.invariant.2,
      one_taken a.order.now a.rules.a a.rules.b a.rules.reading a.store.now at.invariant.3 c.take-p.ensures c.board_at-board.ensures,
    )
