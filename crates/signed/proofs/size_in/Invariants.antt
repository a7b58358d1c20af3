-- The digits left, after the number that those before them write. Assumes nothing.
use Rattle.std.proofs.Common.{◌≡◌, ◌+◌, ◌*◌, ◌^◌, ◌≤◌, drop}
use Rattle.digits.specs.Tens.{tens_from, tens}
use Rattle.signed.specs.Signed.{fifteen}
use Rattle.signed.proofs.size_in.Given as goal

abbrev pub invariant-loop-place : goal.invariant-loop-place
invariant-loop-place l = (tens_from l.size (drop l.place (fifteen l.field)) ≡ tens (fifteen l.field)) × (l.size + 2 ≤ 2 * 10 ^ l.place)
