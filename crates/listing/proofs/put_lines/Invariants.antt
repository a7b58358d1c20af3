-- One line a turn: the front that is put, and the lines that are left. Assumes nothing.
use Prim.Native.Nat.{◌*◌}
use Rattle.digits.proofs.Puts.{Put}
use Rattle.listing.specs.Listing.{lines_of}
use Rattle.listing.proofs.Texts.{rest_of}
use Rattle.listing.proofs.put_lines.Given as goal

abbrev pub invariant-loop-i : goal.invariant-loop-i
invariant-loop-i l = Put (lines_of l.words) l.initial.text (rest_of l.words l.i) l.text (19 * l.i)
