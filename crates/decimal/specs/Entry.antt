-- The decimal entry: its checks, and the run of the shipped words. Assumes nothing.
use Rattle.std.specs.Prelude.{ℕ, ◌+◌, ◌*◌, ◌/◌, ◌%◌, List, [], ◌∷◌, Bool, false, cond, not, ◌&&◌, ◌||◌, eqb, ltb, length}
use Rattle.digits.specs.Bits.{bit, with_bit}
use Rattle.digits.specs.Refusal.{Check, first, answer}
use Rattle.digits.specs.Sizes.{storage_wrong}
use Rattle.digits.specs.declared.refusal.Refusal.{Refusal}
use Rattle.digits.specs.declared.refusal.Refusal.TheVariants as R
use Rattle.codes.specs.declared.Reading.TheVariants.{Basic}
use Rattle.storage.specs.Storage.{whole}
use Rattle.storage.specs.declared.Fence.{Fence}
use Rattle.machine.specs.Cycle.{Outcome, outcome}
use Rattle.machine.specs.declared.State.{State}
use Rattle.run.specs.Run.{run_in}
use Rattle.run.specs.declared.Finished.{Finished}
use Rattle.decimal.specs.Program.{shipped}
use Rattle.decimal.specs.declared.Added.{Added}
use Rattle.decimal.specs.declared.Added.TheVariants.{Summed, BadDigit, Refused}

-- 12: "decimal length not 1 to 16"
abbrev pub decimal_length_wrong : ℕ → Bool
decimal_length_wrong n = ltb n 1 || ltb 16 n

-- 13: "a decimal field's start plus length over main storage's length"
abbrev pub past_end : ℕ → ℕ → ℕ → Bool
past_end main start n = ltb main (start + n)

-- "13 covers a field not wholly in the fence"
abbrev pub not_within : Fence → ℕ → ℕ → ℕ → Bool
not_within fence main start n = past_end main start n || (ltb start fence.start || past_end fence.end start n)

-- 14: "decimal fields overlap and do not start together"
abbrev pub overlap : ℕ → ℕ → ℕ → Bool
overlap a b n = not (eqb a b) && (ltb a (b + n) && ltb b (a + n))

-- "One length serves both fields, a start is a field's lowest address"
abbrev pub field_checks : Fence → ℕ → ℕ → ℕ → ℕ → List (Check Refusal)
field_checks fence main a b n =
    (R.DecimalLength, decimal_length_wrong n) ∷ (R.DecimalField, not_within fence main a n || not_within fence main b n) ∷ (R.Overlap, overlap a b n) ∷ []

-- "The decimal entry checks 1 (main and local), 12, 13, 14."
abbrev pub add_checks : Fence → ℕ → ℕ → ℕ → ℕ → ℕ → List (Check Refusal)
add_checks fence main local a b n = (R.Size, storage_wrong main local) ∷ field_checks fence main a b n

-- "from WX 0 with latches off, nothing arriving, main selected, and all registers zero but those that carry addresses, length and carry":
-- the first field's start in I and J, the second's in U and V, the length in L, and this in S
abbrev pub start_with : ℕ → ℕ → ℕ → ℕ → State
start_with a b n status =
    record {
      i = a / 256;
      j = a % 256;
      u = b / 256;
      v = b % 256;
      l = n;
      t = 0;
      d = 0;
      r = 0;
      s = status;
      g = 0;
      h = 0;
      m = 0;
      n = 0;
      wx = 0;
      ac = false;
      one_bc = false;
      z0 = false;
      allow_write = false;
      local_selected = false;
      arriving = false;
      arriving_byte = 0;
      digit_carry = false;
      invalid = false;
      -- "FWX starts at 0"
      fwx = 0;
      owed = false;
    }

-- the carry in S3
abbrev pub start : ℕ → ℕ → ℕ → Bool → State
start a b n carry = start_with a b n (with_bit 0 3 carry)

-- "40 cycles for each byte of that length, and 40 more"
abbrev pub bound : ℕ → ℕ
bound n = 40 * n + 40

-- "It then runs the shipped words"; "the shipped programs are run under basic"
abbrev pub run_for : Fence → List ℕ → List ℕ → ℕ → ℕ → ℕ → Bool → Outcome Finished
run_for fence main local a b n carry = run_in (bound n) fence Basic shipped main local (start a b n carry)

-- "it answers summed with the carry from S3, or bad digit, by the word it stopped at": summed at this one
abbrev pub answered_at : ℕ → Finished → Added
answered_at done f = cond (eqb f.state.wx done) (Summed (bit f.state.s 3) f.count) (BadDigit f.count)

-- "Its storage and cycle count are that run's"
abbrev pub from_run : ℕ → Outcome Finished → Outcome Added
from_run done r = outcome (answered_at done r.answer) r.main r.local

-- an entry, by its checks and its run: refused, nothing is touched
abbrev pub entry_by : ℕ → List (Check Refusal) → Outcome Finished → List ℕ → List ℕ → Outcome Added
entry_by done checks run main local = answer (first checks) (λ (r : Refusal). outcome (Refused r) main local) (from_run done run)

-- an entry in a fence
abbrev pub entry_of : ℕ → Fence → Outcome Finished → List ℕ → List ℕ → ℕ → ℕ → ℕ → Outcome Added
entry_of done fence run main local a b n = entry_by done (add_checks fence (length main) (length local) a b n) run main local

-- the shipped words' stop for summed
abbrev pub SUMMED : ℕ
SUMMED = 0x14

-- the decimal entry in a fence
unfoldable pub add_in : Fence → List ℕ → List ℕ → ℕ → ℕ → ℕ → Bool → Outcome Added
add_in fence main local a b n carry = entry_of SUMMED fence (run_for fence main local a b n carry) main local a b n

-- the decimal entry: all main storage is in the fence
abbrev pub add_of : List ℕ → List ℕ → ℕ → ℕ → ℕ → Bool → Outcome Added
add_of main local a b n carry = add_in whole main local a b n carry
