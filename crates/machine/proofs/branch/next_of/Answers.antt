-- W, CN, X6 and X7. Assumes nothing.
use mathlib.Core.Path.{◌≡◌, sym, ◌∙◌}
use mathlib.Core.Bool.{false}
use native.Mathlib.Omega.{arith}
use lib.ListN.{get_or}
use Rattle.word.specs.Parity.{is_return}
use Rattle.codes.specs.Branches.{high_branches, low_branches}
use Rattle.machine.specs.Branch.{next_of}
use Rattle.machine.proofs.branch.next_of.Goals as goal

pub returns-else-is_return : goal.returns-else-is_return
unfolding next_of
returns-else-is_return c =
    let a = c.args in
    let t = c.tested-t.ensures in
    let goes_on : is_return a.f ≡ false = sym c.is_return.ensures ∙ c.if-is_return.false in
    let x6 = c.high_branch.ensures ∙ λ i. get_or (high_branches a.reading (t i)) a.f.ch false in
    let x7 = c.low_branch.ensures ∙ λ i. get_or (low_branches a.reading (t i)) a.f.cl false in
    rw (goes_on, c.w_of.ensures, c.one-x7.ensures.0, x7, c.one-x6.ensures.0, x6) (omega arith)
