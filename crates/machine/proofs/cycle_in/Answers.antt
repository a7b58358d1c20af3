-- What the fields of the word do. Assumes nothing.
use Prim.Native.Nat.{ℕ}
use mathlib.Core.Path.{sym, ap, ◌∙◌}
use borrow.Author.Tests.{lt-leb}
use Rattle.word.specs.Layout.{fields_of}
use Rattle.word.specs.Word.{fault_of}
use Rattle.word.specs.declared.Fields.{Fields}
use Rattle.machine.specs.Cycle.{step_of}
use Rattle.machine.proofs.Cycles.{on_fields}
use Rattle.machine.proofs.cycle_in.Goals as goal

pub returns : goal.returns
returns c =
    let a = c.args in
    let sizes = sym c.sizes_wrong.ensures ∙ c.if-sizes_wrong.false in
    let (inside, word) = c.in-Some.ensures.lookup.3 in
    let good = ap (λ (w : ℕ). fault_of w a.state.wx) (sym (word 0)) ∙ sym c.fault.ensures ∙ c.in_default-fault.is in
    c.step.ensures
    ∙ ap (λ (f : Fields). step_of a.fence a.reading f a.main.now a.local.now a.state) (c.fields_of.ensures ∙ ap fields_of (word 0))
    ∙ sym (on_fields a.fence a.reading a.store.now a.main.now a.local.now a.state sizes (lt-leb _ _ inside) good)
