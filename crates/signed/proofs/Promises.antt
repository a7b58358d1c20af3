-- "Exactly when" of each refusal, and that no second answer fits. Assumes nothing.
use Prim.Native.Nat.{ℕ}
use mathlib.Core.Path.{◌≡◌, refl}
use mathlib.Core.List.{List, [], ◌∷◌}
use mathlib.Core.Logic.{◌↔◌}
use lib.IntN.{ℤ, pos}
use Rattle.digits.specs.Refusal.{first, Given}
use Rattle.digits.proofs.Refusals.{result_tells, exactly, same_refusal}
use Rattle.digits.proofs.Sole.{sole}
use Rattle.signed.specs.Signed.{read_signed_checks, number_in, read_signed, write_signed_checks, field_for, write_signed, field_after}
use Rattle.std.specs.Prelude.{Result, Ok, Err}
use Rattle.digits.specs.declared.refusal.Refusal.{Refusal}
use Rattle.signed.proofs.bad_place.Reads as bad_place
use Rattle.signed.proofs.read_signed.Reads as read_signed_reads
use Rattle.signed.proofs.with_sign.Reads as with_sign
use Rattle.signed.proofs.size.Reads as size
use Rattle.signed.proofs.write_signed.Reads as write_signed_reads

-- 33, 25, 26
pub read_exactly : (field : List ℕ) (r : Refusal) → (read_signed field ≡ Err r) ↔ Given r (read_signed_checks field)
unfolding read_signed
read_exactly field = exactly result_tells (number_in field) (read_signed_checks field)

-- 33, 27
pub write_exactly : (number : ℤ) (field : List ℕ) (r : Refusal) → (write_signed number field ≡ Err r) ↔ Given r (write_signed_checks number field)
unfolding write_signed
write_exactly number field = exactly result_tells tt (write_signed_checks number field)

-- "the field unchanged"
pub write_nothing : (number : ℤ) (field : List ℕ) (r : Refusal) → write_signed number field ≡ Err r → field_after number field ≡ field
unfolding write_signed field_after
write_nothing number field = same_refusal result_tells tt (λ r. field) (field_for number) (first (write_signed_checks number field))

-- "minus zero reads as 0", with B and with D
pub minus_zero : (read_signed (0 ∷ 0 ∷ 0 ∷ 0 ∷ 0 ∷ 0 ∷ 0 ∷ 0x0B ∷ []) ≡ Ok (pos 0)) × (read_signed (0 ∷ 0 ∷ 0 ∷ 0 ∷ 0 ∷ 0 ∷ 0 ∷ 0x0D ∷ []) ≡ Ok (pos 0))
unfolding read_signed
minus_zero = (refl, refl)

-- ---- no second answer fits: two results that meet one contract at the same arguments are the same, with what stands in the field lent

pub bad_place_sole : (κs : _) (args : _) (r s : ℕ) (x y : _) → bad_place.Post κs args r x → bad_place.Post κs args s y → r ≡ s
bad_place_sole κs args r s x y p q = sole p q

pub read_signed_sole : (κs : _) (args : _) (r s : Result ℤ Refusal) (x y : _) → read_signed_reads.Post κs args r x → read_signed_reads.Post κs args s y → r ≡ s
read_signed_sole κs args r s x y p q = sole p q

pub with_sign_sole : (κs : _) (args : _) (r s : ℤ) (x y : _) → with_sign.Post κs args r x → with_sign.Post κs args s y → r ≡ s
with_sign_sole κs args r s x y p q = sole p q

pub size_sole : (κs : _) (args : _) (r s : ℕ) (x y : _) → size.Post κs args r x → size.Post κs args s y → r ≡ s
size_sole κs args r s x y p q = sole p q

pub write_signed_sole : (κs : _) (args : _) (r s : Result (Unit {0}) Refusal) (x y : _) → write_signed_reads.Post κs args r x → write_signed_reads.Post κs args s y → (r ≡ s) × (x.1.0.now ≡ y.1.0.now)
write_signed_sole κs args r s x y p q = (sole p.0 q.0, sole p.1 q.1)
