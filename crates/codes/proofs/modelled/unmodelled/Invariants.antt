-- The scan goes on while no code is found. Assumes nothing.
use mathlib.Core.Path.{◌≡◌}
use Rattle.codes.proofs.Scan.{hit, found}
use Rattle.codes.proofs.modelled.unmodelled.Given as goal

abbrev pub invariant-loop-listed : goal.invariant-loop-listed
invariant-loop-listed l = hit l.applies l.code l.listed-items l.listed-index ≡ hit l.applies l.code l.listed-items 0

abbrev pub invariant-loop-place : goal.invariant-loop-place
invariant-loop-place l = found l.place-items l.place-index ≡ found l.place-items 0
