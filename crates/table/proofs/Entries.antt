-- The table's rule at each of its entries. Assumes nothing.
use Prim.Native.Nat.{ℕ, ◌%◌, ◌<◌}
use mathlib.Core.Path.{◌≡◌}
use mathlib.Core.List.{List}
use mathlib.Core.Bool.{Bool, true, false}
use native.Mathlib.Omega.{arith}
use lib.Dec.{leb, eqb→eq}
use lib.ListN.{get_or}
use borrow.Author.Tests.{le-leb, lt-leb}
use Rattle.digits.proofs.Bits.{one_lt}
use Rattle.digits.proofs.Table.{at}
use Rattle.rule.specs.Correction.{corrected}
use Rattle.table.specs.Table.{index, entry_at, right, Corrections}

-- at each index, from the one test of all the entries
pub entry : (table : List ℕ) → Corrections table → (index : ℕ) → index < 1024 → get_or table index 0 ≡ entry_at index
entry table t index h = eqb→eq (get_or table index 0) (entry_at index) (at right table t.rule index (omega (arith, t.size)))

-- an index gives back its parts
module _ (byte : ℕ) (h : byte < 256) where
  low_carry : (low high : Bool) → leb 512 (index low high byte) ≡ low
  low_carry true high = le-leb 512 (index true high byte) (omega arith)
  low_carry false high = lt-leb 512 (index false high byte) (omega (arith, one_lt high))

  high_carry : (low high : Bool) → leb 256 (index low high byte % 512) ≡ high
  high_carry low true = le-leb 256 (index low true byte % 512) (omega arith)
  high_carry low false = lt-leb 256 (index low false byte % 512) (omega arith)

  the_byte : (low high : Bool) → index low high byte % 256 ≡ byte
  the_byte low high = omega arith

  pub entry_is : (low high : Bool) → entry_at (index low high byte) ≡ corrected low high byte
  entry_is low high = λ i. corrected (low_carry low high i) (high_carry low high i) (the_byte low high i)
