-- One more than the greatest power of ten. Assumes nothing.
use Rattle.figures.proofs.Counts.{counted}
use Rattle.figures.proofs.digit_count.Goals as goal

pub returns : goal.returns
returns c =
    let r = c.checked_ilog10 in
    rw c.unwrap_or.ensures (counted r.result c.args.number r.ensures.none r.ensures.power_le r.ensures.next_power_gt r.ensures.bound)
