-- No second answer fits: two results that meet one contract at the same arguments are the same, with what stands in the room lent. Assumes nothing.
use mathlib.Core.Path.{◌≡◌}
use Prim.Native.Nat.{ℕ}
use Rattle.std.specs.Prelude.{Result}
use Rattle.digits.specs.declared.refusal.Refusal.{Refusal}
use Rattle.digits.proofs.Sole.{sole}
use Rattle.results.proofs.result.Reads as result
use Rattle.results.proofs.refusal.Reads as refusal

pub result_sole : (κs : _) (args : _) (r s : Result ℕ Refusal) (x y : _) → result.Post κs args r x → result.Post κs args s y → (r ≡ s) × (x.1.1.1.0.now ≡ y.1.1.1.0.now)
result_sole κs args r s x y p q = (sole p.0 q.0, sole p.1 q.1)

pub refusal_sole : (κs : _) (args : _) (r s : Result ℕ Refusal) (x y : _) → refusal.Post κs args r x → refusal.Post κs args s y → (r ≡ s) × (x.1.0.now ≡ y.1.0.now)
refusal_sole κs args r s x y p q = (sole p.0 q.0, sole p.1 q.1)
