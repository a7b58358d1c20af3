-- No second answer fits. Assumes nothing.
use Prim.Native.Nat.{ℕ}
use mathlib.Core.Path.{◌≡◌}
use mathlib.Core.Bool.{Bool}
use Rattle.std.specs.Prelude.{Option}
use Rattle.digits.proofs.Sole.{sole}
use Rattle.codes.proofs.branches.high_branch.Reads as high_branch
use Rattle.codes.proofs.branches.low_branch.Reads as low_branch
use Rattle.codes.proofs.status.changed.Reads as changed
use Rattle.codes.proofs.modelled.unmodelled.Reads as unmodelled

pub high_branch_sole : (κs : _) (args : _) (r q : Bool) (x y : _) → high_branch.Post κs args r x → high_branch.Post κs args q y → r ≡ q
high_branch_sole κs args r q x y a b = sole a b

pub low_branch_sole : (κs : _) (args : _) (r q : Bool) (x y : _) → low_branch.Post κs args r x → low_branch.Post κs args q y → r ≡ q
low_branch_sole κs args r q x y a b = sole a b

pub changed_sole : (κs : _) (args : _) (r q : ℕ) (x y : _) → changed.Post κs args r x → changed.Post κs args q y → r ≡ q
changed_sole κs args r q x y a b = sole a b

pub unmodelled_sole : (κs : _) (args : _) (r q : Option ℕ) (x y : _) → unmodelled.Post κs args r x → unmodelled.Post κs args q y → r ≡ q
unmodelled_sole κs args r q x y a b = sole a b
