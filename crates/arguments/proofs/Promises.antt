-- Exactly when a text is wrong, and that no second answer fits. Assumes nothing.
use Prim.Native.Nat.{ℕ, ◌<◌}
use mathlib.Core.Path.{◌≡◌, refl, ◌∙◌}
use mathlib.Core.List.{List}
use mathlib.Core.Bool.{Bool, true, false}
use mathlib.Core.Logic.{◌⊎◌, inl, inr, ◌↔◌}
use borrow.Author.Tests.{leb-false, lt-leb}
use lib.Dec.{leb}
use Rattle.digits.proofs.Sole.{sole}
use Rattle.digits.proofs.Truth.{zero_one}
use Rattle.text.specs.Ascii.{ascii}
use Rattle.machine.specs.declared.State.{State}
use Rattle.arguments.specs.Arguments.{digits_fit, value_from, number_of, byte_form, address_form, limit_form, trap_form, reading_form, reading_given, given_of}
use lib.IntN.{ℤ}
use Rattle.std.specs.Prelude.{Option, Some, None, Result}
use Rattle.codes.specs.declared.Reading.TheVariants as C
use Rattle.arguments.specs.declared.Given.{Given}
use Rattle.arguments.specs.declared.Given.TheVariants as G
use Rattle.arguments.proofs.Laws.{gives_byte, gives_address, gives_from, gives_to, gives_trap, gives_reading}
use Rattle.arguments.specs.declared.WholeError.{WholeError}
use Rattle.arguments.proofs.wholes.whole_of.Reads as whole_of
use Rattle.arguments.proofs.numbers.number_of.Reads as number_of_reads
use Rattle.arguments.proofs.numbers.is_number.Reads as is_number
use Rattle.arguments.proofs.forms.given_of.Reads as given_of_reads
use Rattle.arguments.proofs.forms.bounds_of.Reads as bounds_of
use Rattle.arguments.proofs.registers.with_register.Reads as with_register
use Rattle.arguments.proofs.fields.lay.Reads as lay

-- ---- exactly when

-- a number is wrong where its digits are, or where it is over a million
pub number_wrong : (text : List ℕ) → (number_of text ≡ None) ↔ ((digits_fit 10 7 text ≡ false) ⊎ (1000000 < value_from 10 0 text))
unfolding number_of
number_wrong text = (to (digits_fit 10 7 text) (leb (value_from 10 0 text) 1000000) refl refl, back)
  where
    to : (a b : Bool) → digits_fit 10 7 text ≡ a → leb (value_from 10 0 text) 1000000 ≡ b → number_of text ≡ None → (digits_fit 10 7 text ≡ false) ⊎ (1000000 < value_from 10 0 text)
    to false b p q e = inl p
    to true false p q e = inr (leb-false (value_from 10 0 text) 1000000 q)
    to true true p q e = absurd (zero_one (let is : number_of text ≡ Some (value_from 10 0 text) = rw (p, q) in cc))

    back : (digits_fit 10 7 text ≡ false) ⊎ (1000000 < value_from 10 0 text) → number_of text ≡ None
    back (inl p) = rw p
    back (inr h) = by (digits_fit 10 7 text) refl
      where
        by : (a : Bool) → digits_fit 10 7 text ≡ a → number_of text ≡ None
        by true p = rw (p, lt-leb (value_from 10 0 text) 1000000 h)
        by false p = rw p

-- an argument is wrong where it has none of the forms
abbrev NoForm : List ℕ → Type 0
NoForm text =
    (byte_form text ≡ false) × (address_form text ≡ false) × (limit_form (ascii "FROM") text ≡ false) × (limit_form (ascii "TO") text ≡ false) × (trap_form text ≡ false)
    × (reading_form 66 text ≡ false) × (reading_form 67 text ≡ false)

pub given_wrong : (text : List ℕ) → (given_of text ≡ None) ↔ NoForm text
unfolding reading_given
given_wrong text = (
  to (byte_form text) (address_form text) (limit_form (ascii "FROM") text) (limit_form (ascii "TO") text) (trap_form text) (reading_form 66 text) (reading_form 67 text) refl refl refl refl refl refl refl,
  λ (a, b, c, d, e, f, g). gives_reading text a b c d e ∙ rw (f, g),
)
  where
    to : (a b c d e f g : Bool) → byte_form text ≡ a → address_form text ≡ b → limit_form (ascii "FROM") text ≡ c → limit_form (ascii "TO") text ≡ d → trap_form text ≡ e
        → reading_form 66 text ≡ f → reading_form 67 text ≡ g → given_of text ≡ None → NoForm text
    to true b c d e f g p q r s t u v w = let is = gives_byte text p in absurd (zero_one cc)
    to false true c d e f g p q r s t u v w = let is = gives_address text p q in absurd (zero_one cc)
    to false false true d e f g p q r s t u v w = let is = gives_from text p q r in absurd (zero_one cc)
    to false false false true e f g p q r s t u v w = let is = gives_to text p q r s in absurd (zero_one cc)
    to false false false false true f g p q r s t u v w = let is = gives_trap text p q r s t in absurd (zero_one cc)
    to false false false false false true g p q r s t u v w = let is : reading_given text ≡ Some (G.Reading C.Basic) = rw u in let same = gives_reading text p q r s t in absurd (zero_one cc)
    to false false false false false false true p q r s t u v w = let is : reading_given text ≡ Some (G.Reading C.Compatibility) = rw (u, v) in let same = gives_reading text p q r s t in absurd (zero_one cc)
    to false false false false false false false p q r s t u v w = (p, q, r, s, t, u, v)

-- ---- no second answer fits: two results that meet one contract at the same arguments are the same, with what stands in the field lent

pub whole_of_sole : (κs : _) (args : _) (r s : Result ℤ WholeError) (x y : _) → whole_of.Post κs args r x → whole_of.Post κs args s y → r ≡ s
whole_of_sole κs args r s x y p q = sole p q

pub number_of_sole : (κs : _) (args : _) (r s : Option ℕ) (x y : _) → number_of_reads.Post κs args r x → number_of_reads.Post κs args s y → r ≡ s
number_of_sole κs args r s x y p q = sole p q

pub is_number_sole : (κs : _) (args : _) (r s : Bool) (x y : _) → is_number.Post κs args r x → is_number.Post κs args s y → r ≡ s
is_number_sole κs args r s x y p q = sole p q

pub given_of_sole : (κs : _) (args : _) (r s : Option Given) (x y : _) → given_of_reads.Post κs args r x → given_of_reads.Post κs args s y → r ≡ s
given_of_sole κs args r s x y p q = sole p q

pub bounds_of_sole : (κs : _) (args : _) (r s : Option (ℕ × ℕ)) (x y : _) → bounds_of.Post κs args r x → bounds_of.Post κs args s y → r ≡ s
bounds_of_sole κs args r s x y p q = sole p q

pub with_register_sole : (κs : _) (args : _) (r s : State) (x y : _) → with_register.Post κs args r x → with_register.Post κs args s y → r ≡ s
with_register_sole κs args r s x y p q = sole p q

pub lay_sole : (κs : _) (args : _) (r s : _) (x y : _) → lay.Post κs args r x → lay.Post κs args s y → x.1.0.now ≡ y.1.0.now
lay_sole κs args r s x y p q = sole p q
