-- "The correction is also kept as a table of 1,024 results, indexed by 512 for the low digit's carry plus the nine-bit sum." Assumes nothing.
use Rattle.std.specs.Prelude.{ℕ, ◌+◌, ◌*◌, ◌%◌, ◌≡◌, Bool, List, T, eqb, leb, length}
use Rattle.digits.specs.Bits.{one}
use Rattle.digits.specs.Table.{every}
use Rattle.rule.specs.Correction.{corrected}

-- the nine-bit sum is its carry and its byte
abbrev pub index : Bool → Bool → ℕ → ℕ
index lowCarry highCarry byte = 512 * one lowCarry + 256 * one highCarry + byte

-- the rule: what stands at an index
abbrev pub entry_at : ℕ → ℕ
entry_at index = corrected (leb 512 index) (leb 256 (index % 512)) (index % 256)

abbrev pub right : ℕ → ℕ → Bool
right index entry = eqb entry (entry_at index)

-- "Its rule holds at every entry"
pub record Corrections (table : List ℕ) : Type 0 where
  pub size : length table ≡ 1024
  pub rule : T (every right 0 table)
