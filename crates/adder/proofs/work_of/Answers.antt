-- `adder::work_of` meets its contract, from what its parts promise. Assumes nothing.
use Prim.Native.Nat.{ℕ}
use mathlib.Core.Path.{ap, ◌∙◌}
use mathlib.Core.Bool.{cond}
use Rattle.adder.specs.Adder.{result_of, operated, entering_b, sum_of, work_of}
use Rattle.adder.proofs.work_of.Goals as goal

pub returns : goal.returns
unfolding work_of sum_of result_of
returns c =
    let a = c.args in
    let gated-a = c.gated_a-a_gated.ensures in
    let gated-b = c.gated_b-b_gated.ensures in
    let enters = c.entering_b-b_entering.ensures ∙ ap (λ (y : ℕ). entering_b y a.c) gated-b in
    let carry-in = c.carry_in-carry.ensures in
    let decimal = c.is_decimal.ensures in
    let u = c.operated-sum.result in
    let sum = c.operated-sum.ensures ∙ (λ i. operated a.c.cc (decimal i) (gated-a i) (enters i) (carry-in i)) in
    let after = c.first_of.ensures ∙ (λ i. cond u.decimal (c.corrected-corrected.ensures i) u.byte) ∙ ap result_of sum in
    λ i. record {
      a_chosen = a.a;
      a_gated = gated-a i;
      b_chosen = a.b;
      b_gated = gated-b i;
      b_entering = enters i;
      carry_in = carry-in i;
      before = (sum i).byte;
      after = after i;
    }
