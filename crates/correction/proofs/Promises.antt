-- No second answer fits. Assumes nothing.
use Prim.Native.Nat.{ℕ}
use mathlib.Core.Path.{◌≡◌}
use Rattle.digits.proofs.Sole.{sole}
use Rattle.correction.proofs.corrected.Reads as corrected

pub corrected_sole : (κs : _) (args : _) (r s : ℕ) (x y : _) → corrected.Post κs args r x → corrected.Post κs args s y → r ≡ s
corrected_sole κs args r s x y p q = sole p q
