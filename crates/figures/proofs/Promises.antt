-- No second answer fits: two results that meet one contract at the same arguments are the same, with what stands in the room lent. Assumes nothing.
use mathlib.Core.Path.{◌≡◌, refl}
use lib.IntN.{pos, negsuc}
use Rattle.digits.proofs.Sole.{sole}
use Rattle.text.specs.Ascii.{ascii}
use Prim.Native.Nat.{ℕ}
use Rattle.std.specs.Prelude.{Result}
use Rattle.digits.specs.declared.refusal.Refusal.{Refusal}
use Rattle.figures.specs.Figures.{digit_count, number_text}
use Rattle.figures.specs.Typed.{typed_digits}
use Rattle.figures.proofs.put_number.Reads as put_number
use Rattle.figures.proofs.typed.put_typed.Reads as put_typed

pub put_number_sole : (κs : _) (args : _) (r s : Result ℕ Refusal) (x y : _) → put_number.Post κs args r x → put_number.Post κs args s y → (r ≡ s) × (x.1.0.now ≡ y.1.0.now)
put_number_sole κs args r s x y p q = (sole p.0 q.0, sole p.1 q.1)

pub put_typed_sole : (κs : _) (args : _) (r s : Result ℕ Refusal) (x y : _) → put_typed.Post κs args r x → put_typed.Post κs args s y → (r ≡ s) × (x.1.0.now ≡ y.1.0.now)
put_typed_sole κs args r s x y p q = (sole p.0 q.0, sole p.1 q.1)

-- around zero and at the limits
pub some_texts : (number_text (pos 0) ≡ ascii "0") × (number_text (negsuc 0) ≡ ascii "-1") × (number_text (negsuc 12344) ≡ ascii "-12345") × (number_text (pos 9223372036854775807) ≡ ascii "9223372036854775807") × (number_text (negsuc 9223372036854775807) ≡ ascii "-9223372036854775808")
unfolding number_text digit_count
some_texts = (refl, refl, refl, refl, refl)

-- each way to type a sign, and none
pub some_typed : (typed_digits (ascii "190+") ≡ ascii "190C") × (typed_digits (ascii "200-") ≡ ascii "200D") × (typed_digits (ascii "-200") ≡ ascii "200D") × (typed_digits (ascii "190:F") ≡ ascii "190F") × (typed_digits (ascii "190") ≡ ascii "190C")
unfolding typed_digits
some_typed = (refl, refl, refl, refl, refl)
