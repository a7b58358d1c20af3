-- Before each turn the session is the one after the turns before it. Assumes nothing.
use Rattle.std.proofs.Common.{◌≡◌, length}
use Rattle.board.specs.Two.{endings, session_of}
use Rattle.board.proofs.Passed.{Taken}
use Rattle.board.proofs.turns.turns.Given as goal

abbrev pub invariant-loop-done : goal.invariant-loop-done
invariant-loop-done l = (length l.main ≡ length l.initial.main) × (length l.local_a ≡ length l.initial.local_a) × (length l.local_b ≡ length l.initial.local_b)
    × Taken l.order l.rules.a l.rules.b l.rules.reading l.store (session_of l.initial.p l.initial.local_a l.initial.local_b l.initial.main) l.done (endings l.p) (session_of l.p l.local_a l.local_b l.main)
