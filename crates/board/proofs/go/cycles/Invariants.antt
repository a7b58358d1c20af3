-- What is left of the run stands for the whole; what is shown changes nothing of it. Assumes nothing.
use Rattle.std.proofs.Common.{◌≡◌, ◌-◌, length}
use Rattle.machine.specs.Cycle.{cycle_of}
use Rattle.run.specs.Run.{cycles_of}
use Rattle.board.proofs.go.cycles.Given as goal

abbrev pub invariant-loop-count : goal.invariant-loop-count
invariant-loop-count l = (length l.main ≡ length l.initial.main) × (length l.local ≡ length l.initial.local)
    × (cycles_of (l.budget - l.count) (cycle_of l.reading l.store) l.main l.local l.now l.count ≡ cycles_of l.budget (cycle_of l.reading l.store) l.initial.main l.initial.local l.initial.now 0)
