-- No second answer fits, and the table corrects as the rule does. Assumes nothing.
use Prim.Native.Nat.{ℕ}
use mathlib.Core.Path.{◌≡◌}
use Rattle.digits.proofs.Sole.{sole}
use Rattle.rule.proofs.corrected.Reads as by_rule
use Rattle.table.proofs.corrected.Reads as by_table

pub corrected_sole : (κs : _) (args : _) (r s : ℕ) (x y : _) → by_table.Post κs args r x → by_table.Post κs args s y → r ≡ s
corrected_sole κs args r s x y p q = sole p q

-- the two ways to correct agree, by the promise that both make
pub table_agrees : (κs : _) (args : _) (r s : ℕ) (x y : _) → by_rule.Post κs args r x → by_table.Post κs args s y → r ≡ s
table_agrees κs args r s x y p q = sole p q
