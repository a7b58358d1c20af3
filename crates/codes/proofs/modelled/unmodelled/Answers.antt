-- The scan goes on while no code is found. Assumes nothing.
use mathlib.Core.Path.{sym, ◌∙◌}
use mathlib.Core.List.{[]}
use mathlib.Core.Bool.{false}
use native.Mathlib.Omega.{arith}
use Rattle.codes.proofs.Scan.{hit_yes, hit_no, hit_end, found_on, found_at, found_end, found_of, five}
use Rattle.codes.proofs.modelled.unmodelled.Goals as goal

pub loop-listed-preserved : goal.loop-listed-preserved
loop-listed-preserved c = hit_no _ _ _ _ _ c.if-applies-code.false ∙ c.loop-listed.invariant

pub loop-place-preserved : goal.loop-place-preserved
loop-place-preserved c =
    let all = five c.is_basic-basic.result c.args.f c.loop-place.place-index (0, false, 0, []) (omega arith) in
    found_on _ _ _ (omega arith) (sym c.loop-listed.invariant ∙ hit_end _ _ _ _ (omega arith)) ∙ c.loop-place.invariant

pub returns-then-applies-code : goal.returns-then-applies-code
returns-then-applies-code c =
    let all = five c.is_basic-basic.result c.args.f c.loop-place.place-index (0, false, 0, []) (omega arith) in
    found_at _ _ _ (omega arith) (sym c.loop-listed.invariant ∙ hit_yes _ _ _ _ _ (omega arith) c.if-applies-code.true) ∙ c.loop-place.invariant
    ∙ found_of c.args.reading c.args.f _ c.is_basic-basic.ensures

pub returns-after-loop-place : goal.returns-after-loop-place
returns-after-loop-place c =
    found_end _ _ (omega arith) ∙ c.loop-place.invariant ∙ found_of c.args.reading c.args.f _ c.is_basic-basic.ensures
