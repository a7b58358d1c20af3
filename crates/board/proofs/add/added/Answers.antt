-- What was put lies in the line. Assumes nothing.
use Rattle.std.proofs.Common.{sym, ◌∙◌, arith, length-take-le}
use Rattle.text.proofs.Promises.{put_inside}
use Rattle.board.proofs.add.added.Goals as goal

pub slice_bounds-line-end-2 : goal.slice_bounds-line-end-2
slice_bounds-line-end-2 g c =
    omega (arith, put_inside _ _ _ (sym c.say-said.ensures.0 ∙ c.in-Ok.is), c.say-said.auto.line)

pub slice_bounds-text-end : goal.slice_bounds-text-end
slice_bounds-text-end g c =
    sym (length-take-le c.in-Ok.size c.say-said.new.line (omega (arith, put_inside _ _ _ (sym c.say-said.ensures.0 ∙ c.in-Ok.is), c.say-said.auto.line)))
