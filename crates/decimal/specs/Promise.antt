-- Demand 3: what the decimal add comes to. Assumes nothing.
use Rattle.std.specs.Prelude.{ℕ, zero, suc, ◌+◌, ◌*◌, ◌/◌, ◌%◌, ◌^◌, ◌<◌, ◌≤◌, ◌≡◌, List, Bool, true, false, cond, ◌&&◌, ◌⊎◌, ◌↔◌, length, get_or, None}
use Rattle.digits.specs.Bits.{one}
use Rattle.digits.specs.Digits.{both_decimal}
use Rattle.digits.specs.Refusal.{Check, first, Given}
use Rattle.digits.specs.declared.refusal.Refusal.{Refusal}
use Rattle.storage.specs.Storage.{whole}
use Rattle.storage.specs.declared.Fence.{Fence}
use Rattle.machine.specs.Cycle.{Outcome}
use Rattle.run.specs.declared.Ending.TheVariants.{Stopped}
use Rattle.run.specs.declared.Finished.{Finished}
use Rattle.decimal.specs.Value.{value, decimal_field}
use Rattle.decimal.specs.Entry.{add_checks, bound, run_for}
use Rattle.decimal.specs.declared.Added.{Added}
use Rattle.decimal.specs.declared.Added.TheVariants.{Summed, BadDigit, Refused}

-- the cycles of the first pass until a digit is not 0 to 9: 5 for each byte of both fields that is decimal, 2 or 4 for the one that is not
unfoldable pub until_bad : List ℕ → ℕ → ℕ → ℕ → ℕ
until_bad main a b zero = 0
until_bad main a b (suc n) =
    cond (both_decimal (get_or main b 0)) (cond (both_decimal (get_or main a 0)) (5 + until_bad main (a + 1) (b + 1) n) 4) 2

-- the cycles that ran
abbrev pub cycles_in : Added → ℕ
cycles_in (Summed carry count) = count
cycles_in (BadDigit count) = count
cycles_in (Refused r) = 0

-- both fields and the carry
abbrev pub exact_sum : List ℕ → ℕ → ℕ → ℕ → Bool → ℕ
exact_sum main a b n carry = value main a n + value main b n + one carry

-- if every digit of both fields is 0 to 9
pub record Sums (main local : List ℕ) (a b n : ℕ) (carry : Bool) (r : Added) (main' local' : List ℕ) : Type 0 where
  pub out : Bool
  -- summed, with the exact count
  pub summed : r ≡ Summed out (14 * n + 4)
  -- the first field's value afterwards is the sum modulo 100^n, and the carry is the quotient
  pub remainder : value main' a n ≡ exact_sum main a b n carry % 100 ^ n
  pub quotient : one out ≡ exact_sum main a b n carry / 100 ^ n
  -- every digit of it is 0 to 9
  pub decimal : decimal_field main' a n ≡ true
  -- every other byte of main storage, and all of local storage, as before
  pub size : length main' ≡ length main
  pub others : (k : ℕ) → (k < a) ⊎ (a + n ≤ k) → get_or main' k 0 ≡ get_or main k 0
  pub local_kept : local' ≡ local

-- if any digit is not: bad digit, with the exact count, and all storage as before
pub record Bad (count : ℕ) (main local : List ℕ) (r : Added) (main' local' : List ℕ) : Type 0 where
  pub bad : r ≡ BadDigit count
  pub main_kept : main' ≡ main
  pub local_kept : local' ≡ local

-- refused: nothing is touched
pub record Untouched (main local main' local' : List ℕ) : Type 0 where
  pub main_kept : main' ≡ main
  pub local_kept : local' ≡ local

-- every digit of both fields is 0 to 9
abbrev pub both_fields : List ℕ → ℕ → ℕ → ℕ → Bool
both_fields main a b n = decimal_field main a n && decimal_field main b n

-- no refusal of the entry's list is given
abbrev pub Accepted : List (Check Refusal) → Type 0
Accepted checks = first checks ≡ None

-- what an entry promises, whatever its words: n is the fields' length, r the answer, main' and local' the storages afterwards; by its checks, its
-- run, whether both fields are good, and what it then leaves
pub record Keeps (checks : List (Check Refusal)) (run : Outcome Finished) (good : Bool) (Good Bad : Added → List ℕ → List ℕ → Type 0) (main local : List ℕ) (n : ℕ) (r : Added) (main' local' : List ℕ) : Type 0 where
  -- each refusal is given exactly when the list of checks gives it, and then nothing is touched
  pub refused : (why : Refusal) → (r ≡ Refused why) ↔ Given why checks
  pub untouched : (why : Refusal) → r ≡ Refused why → Untouched main local main' local'
  -- accepted, it comes to one of two ends
  pub sums : Accepted checks → good ≡ true → Good r main' local'
  pub bad : Accepted checks → good ≡ false → Bad r main' local'
  -- it stops in every case: budget spent cannot be the answer
  pub stops : Accepted checks → run.answer.ending ≡ Stopped
  -- at most 40 cycles a byte and 40 more
  pub few : cycles_in r ≤ bound n

-- the decimal entry's, by its checks and its fence; a and b are the fields' starts
abbrev pub PromiseBy : List (Check Refusal) → Fence → List ℕ → List ℕ → ℕ → ℕ → ℕ → Bool → Added → List ℕ → List ℕ → Type 0
PromiseBy checks fence main local a b n carry r main' local' =
    Keeps checks (run_for fence main local a b n carry) (both_fields main a b n) (Sums main local a b n carry) (Bad (2 + until_bad main a b n) main local) main local n r main' local'

abbrev pub PromiseOf : Fence → List ℕ → List ℕ → ℕ → ℕ → ℕ → Bool → Added → List ℕ → List ℕ → Type 0
PromiseOf fence main local a b n carry r main' local' = PromiseBy (add_checks fence (length main) (length local) a b n) fence main local a b n carry r main' local'

abbrev pub Promise : List ℕ → List ℕ → ℕ → ℕ → ℕ → Bool → Added → List ℕ → List ℕ → Type 0
Promise main local a b n carry r main' local' = PromiseOf whole main local a b n carry r main' local'
