-- No second answer fits. Assumes nothing.
use mathlib.Core.Path.{◌≡◌}
use mathlib.Core.Bool.{Bool}
use Rattle.digits.proofs.Sole.{sole}
use Rattle.storage.specs.declared.Access.{Access}
use Rattle.storage.specs.declared.Fence.{Fence}
use Rattle.storage.proofs.Fence.whole.Reads as whole
use Rattle.storage.proofs.access_of.Reads as access_of
use Rattle.storage.proofs.is_outside.Reads as is_outside

pub whole_sole : (κs : _) (args : _) (r q : Fence) (x y : _) → whole.Post κs args r x → whole.Post κs args q y → r ≡ q
whole_sole κs args r q x y a b = sole a b

pub access_of_sole : (κs : _) (args : _) (r q : Access) (x y : _) → access_of.Post κs args r x → access_of.Post κs args q y → r ≡ q
access_of_sole κs args r q x y a b = sole a b

pub is_outside_sole : (κs : _) (args : _) (r q : Bool) (x y : _) → is_outside.Post κs args r x → is_outside.Post κs args q y → r ≡ q
is_outside_sole κs args r q x y a b = sole a b
