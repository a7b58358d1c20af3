-- No second answer fits. Assumes nothing.
use Prim.Native.Nat.{ℕ}
use mathlib.Core.Path.{◌≡◌}
use mathlib.Core.List.{List}
use Rattle.digits.proofs.Sole.{sole}
use Rattle.machine.specs.declared.State.{State}
use Rattle.channels.proofs.loaded.Reads as loaded
use Rattle.channels.proofs.saved.Reads as saved
use Rattle.channels.proofs.worked.Reads as worked

pub loaded_sole : (κs : _) (args : _) (r q : State) (x y : _) → loaded.Post κs args r x → loaded.Post κs args q y → r ≡ q
loaded_sole κs args r q x y a b = sole a b

pub saved_sole : (κs : _) (args : _) (r q : List ℕ) (x y : _) → saved.Post κs args r x → saved.Post κs args q y → r ≡ q
saved_sole κs args r q x y a b = sole a b

pub worked_sole : (κs : _) (args : _) (r q : List ℕ) (x y : _) → worked.Post κs args r x → worked.Post κs args q y → r ≡ q
worked_sole κs args r q x y a b = sole a b
