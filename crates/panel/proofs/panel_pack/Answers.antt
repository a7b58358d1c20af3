-- 19, then the fields. Assumes nothing.
use Prim.Native.Nat.{ℕ}
use mathlib.Core.Path.{ap, ◌∙◌}
use lib.ListN.{length}
use Rattle.panel.specs.Answers.{answered}
use Rattle.panel.proofs.Calls.{pack_short, both_lent, front, pack_is}
use Rattle.panel.proofs.panel_pack.Goals as goal

pub returns-then-fields-word : goal.returns-then-fields-word
returns-then-fields-word c = pack_short _ _ _ _ c.number_of.ensures.0 c.if-fields-word.true

pub returns-in-Ok : goal.returns-in-Ok
returns-in-Ok c =
    let a = c.args in
    let left = c.if-fields-word.false in
    ap (answered 0) (front a.word.now _ (both_lent (length a.fields.now) (length a.word.now) 18 1 left).1)
    ∙ pack_is _ _ _ left _ _ _ c.fields_in.ensures c.pack.ensures c.in-Ok.is

pub returns-in-Err : goal.returns-in-Err
returns-in-Err c = ap (λ (n : ℕ). answered n c.args.word.now) c.number_of-in-Err.ensures.0 ∙ pack_is _ _ _ c.if-fields-word.false _ _ _ c.fields_in.ensures c.pack.ensures c.in-Err.is
