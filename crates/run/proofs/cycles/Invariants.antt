-- What is left of the run stands for the whole. Assumes nothing.
use Prim.Native.Nat.{◌≤◌, ◌-◌}
use mathlib.Core.Path.{◌≡◌}
use lib.ListN.{length}
use Rattle.machine.specs.Cycle.{cycle_in}
use Rattle.run.specs.Run.{cycles_of}
use Rattle.run.proofs.cycles.Given as goal

abbrev pub invariant-loop-done : goal.invariant-loop-done
invariant-loop-done l = (l.done ≤ l.budget) × (length l.main ≡ length l.initial.main) × (length l.local ≡ length l.initial.local)
    × (cycles_of (l.budget - l.done) (cycle_in l.fence l.reading l.store) l.main l.local l.now l.done ≡ cycles_of l.budget (cycle_in l.fence l.reading l.store) l.initial.main l.initial.local l.initial.now l.initial.done)

abbrev pub decreases-loop-done : goal.decreases-loop-done
decreases-loop-done l = l.budget - l.done
