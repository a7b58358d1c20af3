-- Three digits and the line feed, from the first digit that is printed. Assumes nothing.
use Prim.Native.Nat.{◌+◌, ◌/◌, ◌%◌}
use lib.Dec.{ltb}
use Rattle.listing.specs.Listing.{refusal_of}
use Rattle.listing.proofs.Texts.{tail_is}
use Rattle.listing.proofs.refusal.Goals as goal

pub returns : goal.returns
unfolding refusal_of
returns c =
    let n = c.args.number in
    let tail = tail_is (ltb n 10) (ltb n 100) (48 + n / 100) (48 + n / 10 % 10) (48 + n % 10) in
    rw (c.zeros_in_front-from.ensures.0, c.three_digits.ensures, tail) at c.put_both.ensures
