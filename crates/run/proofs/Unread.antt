-- No branch reads the two lamps, in any run. Assumes nothing.
use Prim.Native.Nat.{ℕ, zero, suc, ◌+◌}
use mathlib.Core.Path.{◌≡◌, refl, sym, ap, ◌∙◌}
use mathlib.Core.List.{List}
use mathlib.Core.Bool.{Bool}
use native.Mathlib.Omega.{arith}
use borrow.Author.Tests.{ne_eqb}
use lib.ListN.{length}
use Rattle.std.specs.Prelude.{Option, Some, None}
use Rattle.digits.specs.Refusal.{first}
use Rattle.digits.specs.declared.refusal.Refusal.{Refusal}
use Rattle.codes.specs.declared.Reading.{Reading}
use Rattle.storage.specs.declared.Fence.{Fence}
use Rattle.machine.specs.Cycle.{Outcome, cycle_in}
use Rattle.machine.specs.Unread.{with_lamps, answer_with}
use Rattle.machine.specs.declared.State.{State}
use Rattle.machine.specs.declared.Cycled.{Cycled}
use Rattle.machine.specs.declared.Cycled.TheVariants as C
use Rattle.machine.proofs.Unread.{cycle_unread}
use Rattle.run.specs.Run.{onward, cycles_of, run_checks, run_by, run_over}
use Rattle.run.specs.Unread.{run_with, RunUnread}
use Rattle.run.specs.declared.Finished.{Finished}
use Rattle.run.proofs.Runs.{spent, turn}
use Rattle.run.proofs.Goes.{machine, lawful, done}

module _ (carry invalid : Bool) where
  -- a run of some cycle shows what its last cycle set
  with_some : (r : Outcome Finished) (n : ℕ) → r.answer.count ≡ 1 + n → run_with carry invalid r ≡ r
  with_some r n e = rw (ne_eqb r.answer.count 0 (λ z. omega arith))

  module _ (fence : Fence) (reading : Reading) (store : List ℕ) where
    -- by what the first cycle answered
    first_unread : (budget : ℕ) (a : Cycled) (main local : List ℕ)
        → run_with carry invalid (onward (cycles_of budget (cycle_in fence reading store)) a main local 0) ≡ onward (cycles_of budget (cycle_in fence reading store)) (answer_with carry invalid a) main local 0
    first_unread budget (C.Ran t) main local =
        let d = done (lawful fence reading store) budget 1 (machine t main local) in
        with_some (cycles_of budget (cycle_in fence reading store) main local t 1) d.cycles d.counted
    first_unread budget (C.Stopped t) main local = refl
    first_unread budget (C.Refused t r) main local = refl

    cycles_unread : (budget : ℕ) (main local : List ℕ) (s : State)
        → run_with carry invalid (cycles_of budget (cycle_in fence reading store) main local s 0) ≡ cycles_of budget (cycle_in fence reading store) main local (with_lamps carry invalid s) 0
    cycles_unread zero main local s = ap (run_with carry invalid) (spent (cycle_in fence reading store) main local s 0) ∙ sym (spent (cycle_in fence reading store) main local (with_lamps carry invalid s) 0)
    cycles_unread (suc budget) main local s =
        let o : Outcome Cycled = cycle_in fence reading store main local s in
        ap (run_with carry invalid) (turn budget (cycle_in fence reading store) main local s 0 o.answer o.main o.local refl)
        ∙ first_unread budget o.answer o.main o.local
        ∙ sym (turn budget (cycle_in fence reading store) main local (with_lamps carry invalid s) 0 _ _ _ (cycle_unread fence reading store main local s carry invalid o refl))

    -- 1 and 22 read no state
    by_refusal : (k : Option Refusal) (budget : ℕ) (main local : List ℕ) (s : State)
        → run_with carry invalid (run_by k budget (cycle_in fence reading store) main local s) ≡ run_by k budget (cycle_in fence reading store) main local (with_lamps carry invalid s)
    by_refusal (Some r) budget main local s = refl
    by_refusal None budget main local s = cycles_unread budget main local s

pub run_unread : RunUnread
unfolding run_over
run_unread fence reading budget store main local s carry invalid r e =
    ap (run_with carry invalid) e ∙ by_refusal carry invalid fence reading store (first (run_checks (length store) (length main) (length local) budget)) budget main local s
