-- `adder::add` meets its contract, from what its parts promise. Assumes nothing.
use Prim.Native.Nat.{ℕ}
use mathlib.Core.Path.{ap, ◌∙◌}
use Rattle.adder.specs.Adder.{is_invalid, finished, operated, entering_b, sum_of}
use Rattle.adder.proofs.add.Goals as goal

pub returns : goal.returns
unfolding sum_of
returns c =
    let controls = c.args.c in
    let decimal = c.is_decimal-decimal.ensures in
    let a = c.gated_a-a_gated.ensures in
    let b = c.gated_b-b_gated.ensures in
    let enters = c.entering_b-b_entering.ensures ∙ ap (λ (y : ℕ). entering_b y controls) b in
    let sum = c.operated.ensures ∙ (λ i. operated controls.cc (decimal i) (a i) (enters i) (c.carry_in-carry.ensures i)) in
    let invalid = c.is_invalid-invalid.ensures ∙ (λ i. is_invalid (decimal i) (a i) (b i)) in
    c.finished.ensures ∙ (λ i. finished (invalid i) (sum i))
