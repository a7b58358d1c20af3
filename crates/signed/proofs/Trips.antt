-- What was written reads back; what was read is written back for the signs C and D, minus zero excepted; and every number of at most fifteen digits is read from some field. Assumes nothing.
use Prim.Native.Nat.{ℕ, zero, suc, ◌+◌, ◌^◌, ◌<◌, ◌≤◌}
use mathlib.Core.Path.{◌≡◌, refl, sym, ap, ◌∙◌}
use mathlib.Core.List.{List, [], ◌∷◌, ◌++◌}
use mathlib.Core.Bool.{Bool, true, false, cond}
use mathlib.Core.Logic.{inl, inr, ◌↔◌}
use borrow.Author.Tests.{ltb-false, leb-false, eqb-true, le-ltb, not-false}
use native.Mathlib.Nat.{add-zero}
use native.Mathlib.Omega.{arith}
use lib.Dec.{eqb, ltb}
use lib.IntN.{ℤ, pos, negsuc, nat_abs}
use lib.ListN.{length, get_or, take, length-append}
use lib.Seq.{take_at, get_or_at}
use mir.Syntax.{w64}
use mir.Val.{to_z, of_z}
use Rattle.digits.specs.Packed.{digits_in, sign_of, is_minus, is_none, preferred, signed, below_zero}
use Rattle.digits.specs.Tens.{last_digits, tens}
use Rattle.digits.proofs.Refusals.{result_tells, given_none}
use Rattle.digits.proofs.Table.{Below, each_append, each_into}
use Rattle.digits.proofs.Truth.{zero_one}
use Rattle.digits.proofs.Tens.{length_last, last_below, tens_last, tens_lt}
use Rattle.digits.proofs.Packed.{digits_bytes, bytes_below, preferred_is, size_signed, signed_size, read_back}
use Rattle.signed.specs.Signed.{fifteen, sign_digit, field_wrong, over_nine, bad_place, read_signed_checks, number_in, read_signed, write_signed_checks, signed_field, field_for, write_signed, field_after}
use Rattle.signed.specs.Trips.{ReadsBack, KeptSign, WritesBack, Shows, Reached}
use Rattle.std.specs.Prelude.{Ok}
use Rattle.signed.proofs.Whole.{reads, within}
use Rattle.signed.proofs.Fields.{all}
use Rattle.signed.proofs.Answers.{read_number_lem, written}

-- ---- the digits over 9

-- none of digits that are at most 9
over_none : (i : ℕ) (ds : List ℕ) → Below 10 ds → over_nine i ds ≡ i + length ds
over_none i [] b = sym (add-zero i)
over_none i (d ∷ ds) b =
    let h : d ≤ 9 = (let l = b.0 in omega arith) in
    rw (le-ltb 9 d h) (over_none (suc i) ds b.1 ∙ omega arith)

-- and where there is none, each is at most 9
none_over : (i : ℕ) (ds : List ℕ) → i + length ds ≤ over_nine i ds → Below 10 ds
none_over i [] h = tt
none_over i (d ∷ ds) h = by (ltb 9 d) refl h (none_over (suc i) ds)
  where
    by : (t : Bool) → ltb 9 d ≡ t → i + suc (length ds) ≤ cond t i (over_nine (suc i) ds) → (suc i + length ds ≤ over_nine (suc i) ds → Below 10 ds) → Below 10 (d ∷ ds)
    by true e h on = absurd (omega arith)
    by false e h on = let l = ltb-false 9 d e in (omega arith, on (omega arith))

-- so 25 is not given exactly when each of the fifteen is at most 9
pub fine_digits : (field : List ℕ) → length field ≡ 8 → (ltb (bad_place field) 15 ≡ false) ↔ Below 10 (fifteen field)
fine_digits field eight =
    let fifteen-long = all field (omega arith) in
    let only : ltb (bad_place field) 15 ≡ false → Below 10 (fifteen field) = λ e. none_over 0 (fifteen field) (omega (arith, ltb-false (bad_place field) 15 e, fifteen-long)) in
    (only, λ b. le-ltb (bad_place field) 15 (omega (arith, over_none 0 (fifteen field) b, fifteen-long)))

-- ---- a field that is written, and its digits

digits_below : (size sign : ℕ) → sign < 16 → Below 16 (last_digits 15 size ++ (sign ∷ []))
digits_below size sign small =
    each_append (λ (d : ℕ). d < 16) (last_digits 15 size) (sign ∷ [])
    (each_into (λ (d : ℕ). d < 10) (λ (d : ℕ). d < 16) (λ d h. omega arith) (last_digits 15 size) (last_below 15 size)) (small, tt)

module _ (size sign : ℕ) (small : sign < 16) where
  digits_field : digits_in (signed_field size sign) ≡ last_digits 15 size ++ (sign ∷ [])
  unfolding signed_field
  digits_field = digits_bytes 8 (last_digits 15 size ++ (sign ∷ [])) (length-append (last_digits 15 size) (sign ∷ [])) (digits_below size sign small)

  field_digits_lem : fifteen (signed_field size sign) ≡ last_digits 15 size
  field_digits_lem = ap (take 15) digits_field ∙ take_at (last_digits 15 size) (sign ∷ []) 15 (length_last 15 size)

  field_sign : sign_digit (signed_field size sign) ≡ sign
  field_sign = ap (λ (l : List ℕ). get_or l 15 0) digits_field ∙ get_or_at (last_digits 15 size) sign [] 0 15 (length_last 15 size)

  field_length_lem : length (signed_field size sign) ≡ 8
  unfolding signed_field
  field_length_lem = refl

-- a field that is read is that of its digits and its sign
read_field : (field : List ℕ) → length field ≡ 8 → Below 10 (fifteen field) → field ≡ signed_field (tens (fifteen field)) (sign_digit field)
unfolding signed_field
read_field field eight b = read_back 7 field eight b

-- ---- what was written reads back

right_length : (field : List ℕ) → field_wrong field ≡ false → length field ≡ 8
right_length field e = eqb-true (length field) 8 (not-false (eqb (length field) 8) e)

was_written : (number : ℤ) (field : List ℕ) → write_signed number field ≡ Ok tt → (length field ≡ 8) × (nat_abs number < 10 ^ 15)
unfolding write_signed
was_written number field e =
    let (none, same) = given_none result_tells tt tt (λ q. refl) (write_signed_checks number field) e in
    (right_length field none.0, leb-false (10 ^ 15) (nat_abs number) none.1.0)

shown : (number : ℤ) → nat_abs number < 10 ^ 15 → read_signed (field_for number) ≡ Ok number
shown number h =
    let n = nat_abs number in
    let m = below_zero number in
    let p = preferred_is m in
    let f = signed_field n (preferred m) in
    let d = field_digits_lem n (preferred m) p.2 in
    let s = field_sign n (preferred m) p.2 in
    let fine : bad_place f ≡ 15 = ap (over_nine 0) d ∙ over_none 0 (last_digits 15 n) (last_below 15 n) ∙ length_last 15 n in
    let z : number_in f ≡ number = (λ i. signed (is_minus (sign_of (s i))) (tens (d i))) ∙ (λ i. signed (p.0 i) (tens_last 15 n h i)) ∙ signed_size number in
    sym (read_number_lem f (field_length_lem n (preferred m) p.2) (omega arith) (ap (λ (x : ℕ). is_none (sign_of x)) s ∙ p.1)) ∙ ap Ok z

pub reads_back : ReadsBack
reads_back number field e =
    let (eight, small) = was_written number field e in
    ap read_signed (sym (written field eight number small).1) ∙ shown number small

-- ---- writing what was read

-- what an answer says of its field
record Read (field : List ℕ) (number : ℤ) : Type 0 where
  eight : length field ≡ 8
  fine : Below 10 (fifteen field)
  is : number_in field ≡ number

was_read : (field : List ℕ) (number : ℤ) → read_signed field ≡ Ok number → Read field number
unfolding read_signed
was_read field number e =
    let (none, same) = given_none result_tells (number_in field) number (λ q. cc) (read_signed_checks field) e in
    let eight = right_length field none.0 in
    record { eight = eight; fine = (fine_digits field eight).0 none.1.0; is = same }

read_size : (field : List ℕ) (number : ℤ) → Read field number → nat_abs number ≡ tens (fifteen field)
read_size field number r = ap nat_abs (sym r.is) ∙ size_signed (is_minus (sign_of (sign_digit field))) (tens (fifteen field))

-- it has at most fifteen digits
read_small : (field : List ℕ) (number : ℤ) → Read field number → nat_abs number < 10 ^ 15
read_small field number r =
    let eight = r.eight in rw (read_size field number r) (tens_lt 15 (fifteen field) (all field (omega arith)) r.fine)

-- its sign is written again exactly for C and D, minus zero excepted
sign_kept : (field : List ℕ) (number : ℤ) → Read field number → KeptSign field number → preferred (below_zero number) ≡ sign_digit field
sign_kept field number r k = by k
  where
    size : ℕ
    size = tens (fifteen field)

    below : (n : ℕ) → number ≡ signed true n → (number ≡ pos 0 → ⊥) → below_zero number ≡ true
    below zero e some = absurd (some e)
    below (suc n) e some = ap below_zero e

    by : KeptSign field number → preferred (below_zero number) ≡ sign_digit field
    by (inl c) = ap (λ (z : ℤ). preferred (below_zero z)) (sym r.is ∙ (λ i. signed (is_minus (sign_of (c i))) size)) ∙ sym c
    by (inr (d, some)) = ap preferred (below size (sym r.is ∙ (λ i. signed (is_minus (sign_of (d i))) size)) some) ∙ sym d

kept_sign : (field : List ℕ) (number : ℤ) → preferred (below_zero number) ≡ sign_digit field → KeptSign field number
kept_sign field (pos n) e = inl (sym e)
kept_sign field (negsuc n) e = inr (sym e, λ q. zero_one cc)

pub writes_back : WritesBack
writes_back field number e =
    let r = was_read field number e in
    let small = read_small field number r in
    let w = written field r.eight number small in
    let own : field ≡ signed_field (nat_abs number) (sign_digit field) = read_field field r.eight r.fine ∙ ap (λ (n : ℕ). signed_field n (sign_digit field)) (sym (read_size field number r)) in
    let sign = preferred (below_zero number) in
    let put : sign_digit (field_for number) ≡ sign = field_sign (nat_abs number) sign (preferred_is (below_zero number)).2 in
    let only : field_after number field ≡ field → KeptSign field number = λ same. kept_sign field number (sym put ∙ ap sign_digit (w.1 ∙ same)) in
    let always : KeptSign field number → field_after number field ≡ field = λ k. sym w.1 ∙ ap (signed_field (nat_abs number)) (sign_kept field number r k) ∙ sym own in
    (sym w.0, (only, always))

-- the machine reads the number that it was given
pub read_whole : (field : List ℕ) (number : ℤ) → read_signed field ≡ Ok number → to_z w64 (of_z w64 number) ≡ number
read_whole field number e = let h = read_small field number (was_read field number e) in reads number (within number (omega arith))

field_bytes_lem : (size sign : ℕ) → sign < 16 → Below 256 (signed_field size sign)
unfolding signed_field
field_bytes_lem size sign small = bytes_below (last_digits 15 size ++ (sign ∷ [])) (digits_below size sign small)

pub reached : Reached
reached number =
    let bytes = field_bytes_lem (nat_abs number) (preferred (below_zero number)) (preferred_is (below_zero number)).2 in
    let from : nat_abs number < 10 ^ 15 → Shows number = λ h. record { field = field_for number; bytes = bytes; reads = shown number h } in
    (λ s. read_small s.field number (was_read s.field number s.reads), from)
