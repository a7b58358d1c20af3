-- 19, then the word. Assumes nothing.
use Prim.Native.Nat.{ℕ}
use mathlib.Core.Path.{ap, ◌∙◌}
use Rattle.panel.specs.Answers.{answered}
use Rattle.panel.proofs.Calls.{apart_short, apart_is}
use Rattle.panel.proofs.panel_take_apart.Goals as goal

pub returns-then-fields-lt-FIELDS : goal.returns-then-fields-lt-FIELDS
returns-then-fields-lt-FIELDS c = apart_short _ _ _ _ c.number_of.ensures.0 c.if-fields-lt-FIELDS.true

pub returns-in-Ok : goal.returns-in-Ok
returns-in-Ok c =
    ap (answered 0) c.put_fields.ensures
    ∙ apart_is _ _ _ c.if-fields-lt-FIELDS.false _ _ c.take_apart.ensures c.in-Ok.is

pub returns-in-Err : goal.returns-in-Err
returns-in-Err c = ap (λ (n : ℕ). answered n c.args.fields.now) c.number_of-in-Err.ensures.0 ∙ apart_is _ _ _ c.if-fields-lt-FIELDS.false _ _ c.take_apart.ensures c.in-Err.is
