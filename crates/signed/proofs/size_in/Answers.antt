-- The digits left, after the number that those before them write. Assumes nothing.
use Rattle.std.proofs.Common.{arith, ◌<◌, sym, ◌∙◌}
use Rattle.signed.proofs.Fields.{tens_next, bound_next, bound_within}
use Rattle.signed.proofs.size_in.Goals as goal

pub overflow_mul-size : goal.overflow_mul-size
overflow_mul-size c =
    let l = c.loop-place in
    let b = bound_within 15 l.place l.size (omega (arith, c.places-place-end.ensures)) l.invariant.1 in
    record { fits = omega arith }

pub overflow_add-size : goal.overflow_add-size
overflow_add-size c =
    let l = c.loop-place in
    let b = bound_within 15 l.place l.size (omega (arith, c.places-place-end.ensures)) l.invariant.1 in
    record { fits = omega (arith, c.digit_at.ensures.1) }

pub loop-place-preserved : goal.loop-place-preserved
loop-place-preserved c =
    let l = c.loop-place in
    let d = c.from.result in
    let places = c.places-place-end.ensures in
    let small : d < 16 = omega (arith, c.from.ensures, c.digit_at.ensures.1) in
    (sym (tens_next c.args.field.now l.place d (omega (arith, places)) (omega (arith, places)) (c.from.ensures ∙ c.digit_at.ensures.0) l.size) ∙ l.invariant.0, bound_next l.place l.size d l.invariant.1 small)
