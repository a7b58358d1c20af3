-- A store that uses none of the seven codes: one cycle under both readings, and so one run. Assumes nothing.
use mathlib.Core.Path.{ap}
use Rattle.machine.proofs.Seven.{cycle_alike}
use Rattle.run.specs.Run.{Cycle, run_over}
use Rattle.run.specs.Seven.{RunAlike}

pub run_alike : RunAlike
run_alike budget fence store main local s none =
    ap (λ (cycle : Cycle). run_over cycle budget store main local s) (λ i m l t. cycle_alike fence store m l t none i)
