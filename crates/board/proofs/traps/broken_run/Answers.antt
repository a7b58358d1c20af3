-- What is left of the run stands for the whole; what is shown changes nothing of it. Assumes nothing.
use Rattle.std.proofs.Common.{◌≡◌, ◌-◌, [], refl, sym, ◌∙◌, arith}
use native.Mathlib.Nat.{sub-zero}
use Rattle.board.proofs.Broken.{goes_on_lem, ends_early, ends}
use Rattle.board.proofs.traps.broken_run.Goals as goal

pub loop-trap-init : goal.loop-trap-init
loop-trap-init g c = (omega arith, omega arith, refl, refl, record { traps = []; same = λ more. rw (sub-zero c.args.budget) })

pub returns-then-not-spent : goal.returns-then-not-spent
returns-then-not-spent g c =
    let at = c.loop-trap in
    let a = c.args in
    ends_early a.budget a.reading a.store.now a.main.now a.local.now a.state at.invariant.4 (c.in-Some.trap.after - at.done) c.go-finished.ensures
    (sym c.spent.ensures ∙ c.if-not-spent.true)

pub loop-trap-preserved : goal.loop-trap-preserved
loop-trap-preserved g c =
    let at = c.loop-trap in
    let a = c.args in
    let trap = c.in-Some.trap in
    let left : a.budget - at.done - (trap.after - at.done) ≡ a.budget - trap.after = omega (arith, at.invariant.0, c.in-Some.ensures) in (
      omega arith,
      omega arith,
      c.go-finished.auto.main ∙ at.invariant.2,
      c.go-finished.auto.local ∙ at.invariant.3,
      goes_on_lem a.budget a.reading a.store.now a.main.now a.local.now a.state at.invariant.4 (trap.after - at.done) trap.address (a.budget - trap.after) c.go-finished.ensures
          (sym c.spent.ensures ∙ c.if-not-spent.false) left c.trapped-now.ensures,
    )

pub returns : goal.returns
returns g c =
    let a = c.args in
    ends a.budget a.reading a.store.now a.main.now a.local.now a.state c.loop-trap.invariant.4 c.go-finished-2.ensures
