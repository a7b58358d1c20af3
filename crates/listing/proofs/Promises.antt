-- The room that is enough for every deck, texts worked out, and that no second answer fits. Assumes nothing.
use Prim.Native.Nat.{ℕ, ◌≤◌}
use mathlib.Core.Path.{◌≡◌, refl}
use mathlib.Core.List.{List, [], ◌∷◌}
use native.Mathlib.Omega.{arith}
use lib.ListN.{length, length-append, length-drop}
use Rattle.std.specs.Prelude.{Option, Some, None, Result}
use Rattle.digits.specs.declared.refusal.Refusal.{Refusal}
use Rattle.digits.specs.Refusal.{refusal_number, first, answer}
use Rattle.digits.proofs.Sole.{sole}
use Rattle.deck.specs.Deck.{read_checks, read_of, words_of}
use Rattle.deck.proofs.Answers.{was_read}
use Rattle.text.specs.Ascii.{ascii}
use Rattle.text.specs.Text.{three_digits, zeros_in_front, decimal}
use Rattle.listing.specs.Listing.{lines_of, text_line, refusal_of, text_of}
use Rattle.listing.proofs.Texts.{length_lines}
use Rattle.listing.proofs.list.Reads as list
use Rattle.listing.proofs.refusal.Reads as refusal
use Rattle.listing.proofs.print.Reads as print

-- ---- 77,824 bytes are room for the text of every deck

refusal_short : (n : ℕ) → length (refusal_of n) ≤ 12
unfolding refusal_of
refusal_short n =
    let d = length-drop (zeros_in_front n) (three_digits n) in
    let e = length-append (decimal n) (10 ∷ []) in
    omega arith

pub text_short : (deck : List ℕ) → length (text_of deck) ≤ 77824
unfolding text_of read_of
text_short deck = by (first (read_checks deck 4096)) refl
  where
    by : (k : Option Refusal) → first (read_checks deck 4096) ≡ k → length (answer k (λ r. refusal_of (refusal_number r)) (lines_of (words_of deck))) ≤ 77824
    by None e = omega (arith, length_lines (words_of deck), (was_read deck 4096 (length (words_of deck)) (rw e)).fits)
    by (Some r) e = omega (arith, refusal_short (refusal_number r))

-- ---- texts worked out

-- word P at address 0
pub lines_of_P : lines_of (0x00018093988E6801 ∷ []) ≡ ascii "000 018093988E6801\n"
unfolding lines_of text_line
lines_of_P = refl

pub refusals : (refusal_of 7 ≡ ascii "REFUSED 7\n") × (refusal_of 15 ≡ ascii "REFUSED 15\n")
unfolding refusal_of
refusals = (refl, refl)

-- ---- no second answer fits: two results that meet one contract at the same arguments are the same, with what stands in the room lent

pub list_sole : (κs : _) (args : _) (r s : Result ℕ Refusal) (x y : _) → list.Post κs args r x → list.Post κs args s y → (r ≡ s) × (x.1.0.now ≡ y.1.0.now)
list_sole κs args r s x y p q = (sole p.0 q.0, sole p.1 q.1)

pub refusal_sole : (κs : _) (args : _) (r s : Result ℕ Refusal) (x y : _) → refusal.Post κs args r x → refusal.Post κs args s y → (r ≡ s) × (x.1.0.now ≡ y.1.0.now)
refusal_sole κs args r s x y p q = (sole p.0 q.0, sole p.1 q.1)

pub print_sole : (κs : _) (args : _) (r s : Result ℕ Refusal) (x y : _) → print.Post κs args r x → print.Post κs args s y → (r ≡ s) × (x.1.0.now ≡ y.1.0.now)
print_sole κs args r s x y p q = (sole p.0 q.0, sole p.1 q.1)
