-- 1, 22, then the cycles. Assumes nothing.
use Rattle.std.proofs.Common.{sym, ◌∙◌}
use Rattle.machine.specs.Cycle.{cycle_of}
use Rattle.run.proofs.Runs.{refused_at_once, begins}
use Rattle.board.proofs.go.go.Goals as goal

pub returns-in-Some : goal.returns-in-Some
returns-in-Some c =
    let a = c.args in
    refused_at_once (cycle_of a.reading a.store.now) a.budget a.store.now a.main.now a.local.now a.state _ (sym c.refusal.ensures ∙ c.in-Some.is)

pub returns : goal.returns
returns c =
    let a = c.args in
    c.cycles.ensures ∙ begins (cycle_of a.reading a.store.now) a.budget a.store.now a.main.now a.local.now a.state (sym c.refusal.ensures ∙ c.in_default.is)
