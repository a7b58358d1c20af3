-- "The panel's single-cycle button and its run button must show the same machine.": document 02, request 14, of the calls. Assumes nothing.
use Rattle.std.specs.Prelude.{ℕ, zero, suc, ◌+◌, ◌/◌, ◌%◌, ◌^◌, ◌≤◌, ◌≡◌, List, cond, eqb}
use Rattle.digits.specs.Bits.{one}
use Rattle.codes.specs.declared.Reading.{Reading}
use Rattle.run.specs.Divided.{Quiet}
use Rattle.panel.specs.Answers.{RAN, SPENT, counted, Called, cycle_call, run_call}

-- the two buttons, each on what the last call left: the single-cycle button, and the run button with its budget
abbrev pub press_cycle : Reading → List ℕ → Called → Called
press_cycle reading store c = cycle_call reading store c.main c.local c.state

abbrev pub press_run : ℕ → Reading → List ℕ → Called → Called
press_run budget reading store c = run_call reading store c.main c.local c.state budget

-- ---- the run button twice, and once

-- what the number of a run tells: its kind, refusal and field, and the cycles that ran
abbrev pub code_in : ℕ → ℕ
code_in number = number % 2 ^ 32

abbrev pub cycles_in : ℕ → ℕ
cycles_in number = number / 2 ^ 32

-- two calls, the second of budget b, against the call of their total
pub record DividedCalls (b : ℕ) (first second whole : Called) : Type 0 where
  -- "same state, storage and added counts": the record is the state
  pub in_state : second.state ≡ whole.state
  pub in_main : second.main ≡ whole.main
  pub in_local : second.local ≡ whole.local
  pub cycles : cycles_in first.number + cycles_in second.number ≡ cycles_in whole.number
  -- "with the second run's answer, or the first's where the second budget is 0"
  pub code : cond (eqb b 0) (code_in first.number) (code_in second.number) ≡ code_in whole.number

abbrev pub CallsDivide : Type 0
CallsDivide =
    (a b : ℕ) (reading : Reading) (store : List ℕ) (c : Called)
    → a + b ≤ 1000000
    → DividedCalls b (press_run a reading store c) (press_run b reading store (press_run a reading store c)) (press_run (a + b) reading store c)

-- ---- the single-cycle button n times, and the run button once

-- n presses, one after the other
abbrev pub presses : ℕ → Reading → List ℕ → Called → Called
presses zero reading store c = c
presses (suc n) reading store c = presses n reading store (press_cycle reading store c)

-- how many of them ran
abbrev pub ran_in : ℕ → Reading → List ℕ → Called → ℕ
ran_in zero reading store c = 0
ran_in (suc n) reading store c = one (eqb (press_cycle reading store c).number RAN) + ran_in n reading store (press_cycle reading store c)

-- the last of them as the end of a run: where it ran, the budget is spent
abbrev pub as_ending : ℕ → ℕ
as_ending code = cond (eqb code RAN) SPENT code

pub record Shows (n : ℕ) (reading : Reading) (store : List ℕ) (c : Called) : Type 0 where
  pub in_state : (presses n reading store c).state ≡ (press_run n reading store c).state
  pub in_main : (presses n reading store c).main ≡ (press_run n reading store c).main
  pub in_local : (presses n reading store c).local ≡ (press_run n reading store c).local
  -- where none is pressed there is no answer to compare
  pub number : (n ≡ 0 → ⊥) → counted (as_ending (presses n reading store c).number) (ran_in n reading store c) ≡ (press_run n reading store c).number

abbrev pub SameMachine : Type 0
SameMachine = (n : ℕ) (reading : Reading) (store : List ℕ) (c : Called) → n ≤ 1000000 → Shows n reading store c

-- ---- a store with no Write and no Store word

abbrev pub CallsQuiet : Type 0
CallsQuiet = (budget : ℕ) (reading : Reading) (store : List ℕ) (c : Called) → Quiet store → ((press_run budget reading store c).main ≡ c.main) × ((press_run budget reading store c).local ≡ c.local)
