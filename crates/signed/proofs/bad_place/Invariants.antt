-- The places left stand for all. Assumes nothing.
use Rattle.std.proofs.Common.{◌≡◌, drop}
use Rattle.signed.specs.Signed.{fifteen, over_nine, bad_place}
use Rattle.signed.proofs.bad_place.Given as goal

abbrev pub invariant-loop-place : goal.invariant-loop-place
invariant-loop-place l = over_nine l.place (drop l.place (fifteen l.field)) ≡ bad_place l.field
