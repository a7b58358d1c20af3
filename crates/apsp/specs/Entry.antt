-- The entry of AP and SP: the decimal entry's checks, and the run of the signed words. Assumes nothing.
use Rattle.std.specs.Prelude.{ℕ, List, Bool}
use Rattle.digits.specs.Bits.{with_bit}
use Rattle.machine.specs.Cycle.{Outcome}
use Rattle.machine.specs.declared.State.{State}
use Rattle.codes.specs.declared.Reading.TheVariants.{Basic}
use Rattle.storage.specs.Storage.{whole}
use Rattle.run.specs.Run.{run_of}
use Rattle.run.specs.declared.Finished.{Finished}
use Rattle.decimal.specs.Entry.{start_with, bound, entry_of}
use Rattle.decimal.specs.declared.Added.{Added}
use Rattle.apsp.specs.Program.{signed_words}

-- S0 tells subtract
abbrev pub signed_start : ℕ → ℕ → ℕ → Bool → State
signed_start a b n subtract = start_with a b n (with_bit 0 0 subtract)

abbrev pub signed_run : List ℕ → List ℕ → ℕ → ℕ → ℕ → Bool → Outcome Finished
signed_run main local a b n subtract = run_of (bound n) Basic signed_words main local (signed_start a b n subtract)

-- the stop for done: "S3 tells overflow"
abbrev pub DONE : ℕ
DONE = 0x33

-- "Refusals 12 to 14 apply as before"
unfoldable pub signed_of : List ℕ → List ℕ → ℕ → ℕ → ℕ → Bool → Outcome Added
signed_of main local a b n subtract = entry_of DONE whole (signed_run main local a b n subtract) main local a b n
