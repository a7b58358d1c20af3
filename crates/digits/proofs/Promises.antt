-- No second answer fits: two results that meet one contract at the same arguments are the same. Assumes nothing.
use Prim.Native.Nat.{ℕ}
use mathlib.Core.Path.{◌≡◌}
use mathlib.Core.Bool.{Bool}
use Rattle.digits.proofs.Sole.{sole}
use Rattle.digits.proofs.one.Reads as one
use Rattle.digits.proofs.bit.Reads as bit
use Rattle.digits.proofs.with_bit.Reads as with_bit
use Rattle.digits.proofs.both_decimal.Reads as both_decimal
use Rattle.digits.proofs.first_of.Reads as first_of
use Rattle.digits.proofs.storage_wrong.Reads as storage_wrong
use Rattle.digits.proofs.sizes_wrong.Reads as sizes_wrong
use Rattle.digits.proofs.byte_at.Reads as byte_at
use Rattle.digits.proofs.copy.Reads as copy
use Rattle.digits.proofs.refusal.Refusal.number.Reads as number
use Rattle.digits.proofs.refusal.Refusal.field.Reads as field

pub one_sole : (κs : _) (args : _) (r q : ℕ) (x y : _) → one.Post κs args r x → one.Post κs args q y → r ≡ q
one_sole κs args r q x y a b = sole a.0 b.0

pub bit_sole : (κs : _) (args : _) (r q : Bool) (x y : _) → bit.Post κs args r x → bit.Post κs args q y → r ≡ q
bit_sole κs args r q x y a b = sole a b

pub with_bit_sole : (κs : _) (args : _) (r q : ℕ) (x y : _) → with_bit.Post κs args r x → with_bit.Post κs args q y → r ≡ q
with_bit_sole κs args r q x y a b = sole a b

pub both_decimal_sole : (κs : _) (args : _) (r q : Bool) (x y : _) → both_decimal.Post κs args r x → both_decimal.Post κs args q y → r ≡ q
both_decimal_sole κs args r q x y a b = sole a b

pub first_of_sole : (T g a b c κs args r q x y : _) → first_of.Post T g a b c κs args r x → first_of.Post T g a b c κs args q y → r ≡ q
first_of_sole T g a b c κs args r q x y p s = sole p s

pub storage_wrong_sole : (κs : _) (args : _) (r q : Bool) (x y : _) → storage_wrong.Post κs args r x → storage_wrong.Post κs args q y → r ≡ q
storage_wrong_sole κs args r q x y a b = sole a b

pub sizes_wrong_sole : (κs : _) (args : _) (r q : Bool) (x y : _) → sizes_wrong.Post κs args r x → sizes_wrong.Post κs args q y → r ≡ q
sizes_wrong_sole κs args r q x y a b = sole a b

pub byte_at_sole : (κs : _) (args : _) (r q : ℕ) (x y : _) → byte_at.Post κs args r x → byte_at.Post κs args q y → r ≡ q
byte_at_sole κs args r q x y a b = sole a b

-- of what is lent
pub copy_sole : (T g a b c κs args r q x y : _) → copy.Post T g a b c κs args r x → copy.Post T g a b c κs args q y → x.1.0.now ≡ y.1.0.now
copy_sole T g a b c κs args r q x y p s = sole p s

pub number_sole : (κs : _) (args : _) (r q : ℕ) (x y : _) → number.Post κs args r x → number.Post κs args q y → r ≡ q
number_sole κs args r q x y a b = sole a b

pub field_sole : (κs : _) (args : _) (r q : ℕ) (x y : _) → field.Post κs args r x → field.Post κs args q y → r ≡ q
field_sole κs args r q x y a b = sole a b
