-- A run of one, as a cycle. Assumes nothing.
use mathlib.Core.Path.{ap, ◌∙◌}
use Rattle.machine.specs.Cycle.{outcome}
use Rattle.machine.specs.declared.Cycled.{Cycled}
use Rattle.run.proofs.Goes.{machine, lawful}
use Rattle.run.proofs.Divided.{one_is}
use Rattle.run.proofs.one.Goals as goal

pub returns : goal.returns
returns c =
    let a = c.args in
    ap (λ (r : Cycled). outcome r c.run_in.new.main c.run_in.new.local) c.as_cycle.ensures
    ∙ one_is (lawful a.fence a.reading a.store.now) (machine a.state a.main.now a.local.now) _ _ _ c.run_in.ensures
