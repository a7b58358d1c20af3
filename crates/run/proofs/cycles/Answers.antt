-- What is left of the run stands for the whole. Assumes nothing.
use mathlib.Core.Path.{sym, ap, ◌∙◌}
use native.Mathlib.Omega.{arith}
use Rattle.machine.specs.Cycle.{outcome}
use Rattle.run.specs.declared.Finished.{Finished}
use Rattle.run.proofs.Runs.{on_spent, on_answer}
use Rattle.run.proofs.cycles.Goals as goal

pub loop-done-preserved : goal.loop-done-preserved
loop-done-preserved c =
    let at = c.loop-done in
    let ran = c.cycle_in in
    let less = c.if-done-budget.false in (
      omega arith,
      ran.auto.main ∙ at.invariant.1,
      ran.auto.local ∙ at.invariant.2,
      sym (on_answer _ _ _ _ _ _ _ _ _ _ (omega (arith, less)) ran.ensures c.in-Ran.is) ∙ at.invariant.3,
    )

pub returns-then-done-budget : goal.returns-then-done-budget
returns-then-done-budget c = ap (λ (f : Finished). outcome f c.loop-done.main c.loop-done.local) c.ended.ensures ∙ sym (on_spent _ _ _ _ _ _ c.if-done-budget.true) ∙ c.loop-done.invariant.3

pub returns-in-Stopped : goal.returns-in-Stopped
returns-in-Stopped c =
    let at = c.loop-done in
    let ran = c.cycle_in in
    let less = c.if-done-budget.false in
    ap (λ (f : Finished). outcome f ran.new.main ran.new.local) c.ended-in-Stopped.ensures
    ∙ sym (on_answer _ _ _ _ _ _ _ _ _ _ (omega (arith, less)) ran.ensures c.in-Stopped.is) ∙ at.invariant.3

pub returns-in-Refused : goal.returns-in-Refused
returns-in-Refused c =
    let at = c.loop-done in
    let ran = c.cycle_in in
    let less = c.if-done-budget.false in
    ap (λ (f : Finished). outcome f ran.new.main ran.new.local) c.ended-in-Refused.ensures
    ∙ sym (on_answer _ _ _ _ _ _ _ _ _ _ (omega (arith, less)) ran.ensures c.in-Refused.is) ∙ at.invariant.3
