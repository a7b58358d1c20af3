-- The digits still to read, against all. Assumes nothing.
use Rattle.std.proofs.Common.{arith, ◌∙◌}
use Rattle.arguments.proofs.Laws.{value_step, value_grows, value_fits}
use Rattle.arguments.proofs.numbers.long_value.Goals as goal

pub overflow_mul-n : goal.overflow_mul-n
overflow_mul-n c =
    let l = c.loop-c in omega (arith, value_fits c.args.base l.n l.c-index (omega arith) (omega arith) l.invariant.0)

pub overflow_add-n : goal.overflow_add-n
overflow_add-n c =
    let l = c.loop-c in
    omega (arith, c.digit_value.ensures.bound, value_fits c.args.base l.n l.c-index (omega arith) (omega arith) l.invariant.0)

pub loop-c-preserved : goal.loop-c-preserved
loop-c-preserved c =
    let l = c.loop-c in
    let a = c.args in
    let d = c.digit_value in
    (value_grows a.base l.n d.result l.c-index (omega arith) d.ensures.bound l.invariant.0, rw d.ensures.value (value_step a.base l.n l.c-index a.text.now (omega arith)) ∙ l.invariant.1)
