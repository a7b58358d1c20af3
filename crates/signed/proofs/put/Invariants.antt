-- From the last byte on: what is still to put, before what is put. Assumes nothing.
use Rattle.std.proofs.Common.{◌≡◌, ◌<◌, ◌++◌, drop}
use Rattle.digits.specs.Packed.{in_bytes}
use Rattle.signed.specs.Signed.{signed_field}
use Rattle.signed.proofs.Fields.{ended}
use Rattle.signed.proofs.put.Given as goal

abbrev pub invariant-loop-i : goal.invariant-loop-i
invariant-loop-i l = (l.low < 16) × (in_bytes (ended l.i l.rest l.low) ++ drop l.i l.field ≡ signed_field l.size l.sign)
