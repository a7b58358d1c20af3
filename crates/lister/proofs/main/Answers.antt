use Rattle.std.proofs.Common.{arith, sym, length-take-le}
use Rattle.text.proofs.Promises.{put_inside}
use Rattle.lister.proofs.main.Goals as goal

-- what is printed lies in the text's room
pub slice_bounds-text-end : goal.slice_bounds-text-end
slice_bounds-text-end c = omega (arith, put_inside _ _ _ (sym c.in-Ok-print.ensures.0), c.print.auto.room)

pub slice_bounds-write_all-end : goal.slice_bounds-write_all-end
slice_bounds-write_all-end c =
    sym (length-take-le c.in-Ok-print.size c.print.new.room (omega (arith, put_inside _ _ _ (sym c.in-Ok-print.ensures.0), c.print.auto.room)))
