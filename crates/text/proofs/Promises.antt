-- Exactly when 19 is given, that a refusal writes nothing, and that no second answer fits. Assumes nothing.
use Prim.Native.Nat.{ℕ, ◌≤◌}
use mathlib.Core.Path.{◌≡◌}
use mathlib.Core.List.{List}
use mathlib.Core.Logic.{◌↔◌}
use native.Mathlib.Omega.{arith}
use borrow.Author.Tests.{ltb-false}
use lib.ListN.{length}
use Rattle.std.specs.Prelude.{Result, Ok, Err}
use Rattle.digits.specs.Refusal.{first, Given}
use Rattle.digits.specs.declared.refusal.Refusal.{Refusal}
use Rattle.digits.proofs.Refusals.{result_tells, exactly, same_refusal, given_none}
use Rattle.digits.proofs.Sole.{sole}
use Rattle.digits.specs.Lent.{over}
use Rattle.text.specs.Text.{text_checks, put_of, room_after}
use Rattle.text.proofs.put_hexadecimal.Reads as put_hexadecimal
use Rattle.text.proofs.put_spaces.Reads as put_spaces
use Rattle.text.proofs.three_digits.Reads as three_digits
use Rattle.text.proofs.zeros_in_front.Reads as zeros_in_front
use Rattle.text.proofs.put_decimal.Reads as put_decimal
use Rattle.text.proofs.put.Reads as put
use Rattle.text.proofs.put_digits.Reads as put_digits
use Rattle.text.proofs.put_both.Reads as put_both
use Rattle.text.proofs.refusals.words.Reads as words

-- 19, of every text that is put in a room
pub put_exactly : (text : List ℕ) (room : ℕ) (r : Refusal) → (put_of text room ≡ Err r) ↔ Given r (text_checks text room)
unfolding put_of
put_exactly text room = exactly result_tells (length text) (text_checks text room)

-- refused, nothing is written
pub put_nothing : (text old : List ℕ) (r : Refusal) → put_of text (length old) ≡ Err r → room_after text old ≡ old
unfolding put_of room_after
put_nothing text old = same_refusal result_tells (length text) (λ r. old) (over text old) (first (text_checks text (length old)))

-- a text that is put lies in the room
pub put_inside : (text : List ℕ) (room n : ℕ) → put_of text room ≡ Ok n → n ≤ room
unfolding put_of
put_inside text room n e =
    let (none, size) = given_none result_tells (length text) n (λ q. cc) (text_checks text room) e in
    let h = ltb-false room (length text) none.0 in
    omega arith

-- ---- no second answer fits: two results that meet one contract at the same arguments are the same, with what stands in the room lent

pub put_hexadecimal_sole : (κs : _) (args : _) (r s : _) (x y : _) → put_hexadecimal.Post κs args r x → put_hexadecimal.Post κs args s y → x.1.0.now ≡ y.1.0.now
put_hexadecimal_sole κs args r s x y p q = sole p q

pub put_spaces_sole : (κs : _) (args : _) (r s : _) (x y : _) → put_spaces.Post κs args r x → put_spaces.Post κs args s y → x.0.now ≡ y.0.now
put_spaces_sole κs args r s x y p q = sole p q

pub three_digits_sole : (κs : _) (args : _) (r s : List ℕ) (x y : _) → three_digits.Post κs args r x → three_digits.Post κs args s y → r ≡ s
three_digits_sole κs args r s x y p q = sole p q

pub zeros_in_front_sole : (κs : _) (args : _) (r s : ℕ) (x y : _) → zeros_in_front.Post κs args r x → zeros_in_front.Post κs args s y → r ≡ s
zeros_in_front_sole κs args r s x y p q = sole p.0 q.0

pub put_decimal_sole : (κs : _) (args : _) (r s : _) (x y : _) → put_decimal.Post κs args r x → put_decimal.Post κs args s y → x.1.0.now ≡ y.1.0.now
put_decimal_sole κs args r s x y p q = sole p q

pub put_sole : (κs : _) (args : _) (r s : Result ℕ Refusal) (x y : _) → put.Post κs args r x → put.Post κs args s y → (r ≡ s) × (x.1.0.now ≡ y.1.0.now)
put_sole κs args r s x y p q = (sole p.0 q.0, sole p.1 q.1)

pub put_digits_sole : (κs : _) (args : _) (r s : Result ℕ Refusal) (x y : _) → put_digits.Post κs args r x → put_digits.Post κs args s y → (r ≡ s) × (x.1.0.now ≡ y.1.0.now)
put_digits_sole κs args r s x y p q = (sole p.0 q.0, sole p.1 q.1)

pub put_both_sole : (κs : _) (args : _) (r s : Result ℕ Refusal) (x y : _) → put_both.Post κs args r x → put_both.Post κs args s y → (r ≡ s) × (x.1.1.0.now ≡ y.1.1.0.now)
put_both_sole κs args r s x y p q = (sole p.0 q.0, sole p.1 q.1)

pub words_sole : (κs : _) (args : _) (r s : Result ℕ Refusal) (x y : _) → words.Post κs args r x → words.Post κs args s y → (r ≡ s) × (x.1.0.now ≡ y.1.0.now)
words_sole κs args r s x y p q = (sole p.0 q.0, sole p.1 q.1)
