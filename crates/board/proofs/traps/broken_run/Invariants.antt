-- What is left of the run stands for the whole; what is shown changes nothing of it. Assumes nothing.
use Rattle.std.proofs.Common.{◌≡◌, ◌-◌, ◌≤◌, length}
use Rattle.board.proofs.Broken.{BrokenTo}
use Rattle.board.proofs.traps.broken_run.Given as goal

abbrev pub invariant-loop-trap : goal.invariant-loop-trap
invariant-loop-trap g l = (l.done ≤ l.from) × (l.done ≤ l.budget) × (length l.main ≡ length l.initial.main) × (length l.local ≡ length l.initial.local)
    × BrokenTo l.budget l.reading l.store l.initial.main l.initial.local l.initial.now (l.budget - l.done) l.main l.local l.now

abbrev pub decreases-loop-trap : goal.decreases-loop-trap
decreases-loop-trap g l = l.budget - l.from
