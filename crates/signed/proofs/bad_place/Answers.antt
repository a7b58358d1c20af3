-- The places left stand for all. Assumes nothing.
use Rattle.std.proofs.Common.{arith, sym, ◌∙◌}
use Rattle.signed.proofs.Fields.{over_here, over_next}
use Rattle.signed.proofs.bad_place.Goals as goal

pub returns-then-digit_at-gt9 : goal.returns-then-digit_at-gt9
returns-then-digit_at-gt9 c =
    let l = c.loop-place in
    sym (over_here c.args.field.now l.place _ (omega (arith, c.places-end.ensures)) (omega (arith, c.places-end.ensures)) c.digit_at.ensures.0 c.if-digit_at-gt9.true) ∙ l.invariant

pub loop-place-preserved : goal.loop-place-preserved
loop-place-preserved c =
    let l = c.loop-place in
    sym (over_next c.args.field.now l.place _ (omega (arith, c.places-end.ensures)) (omega (arith, c.places-end.ensures)) c.digit_at.ensures.0 c.if-digit_at-gt9.false) ∙ l.invariant
