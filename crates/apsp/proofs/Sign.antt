-- The sign routine, 15, 16 and 1B to 1F: a byte in R that has a digit and a sign, and what becomes of S. Assumes nothing.
use Prim.Native.Nat.{ℕ, suc, ◌+◌, ◌/◌, ◌%◌, ◌<◌}
use mathlib.Core.Path.{◌≡◌, refl, ap, subst, ◌∙◌}
use mathlib.Core.List.{List, [], ◌∷◌}
use mathlib.Core.Bool.{Bool, true, false, cond, not, ◌&&◌}
use native.Mathlib.Omega.{arith}
use borrow.Author.Tests.{eq-eqb, ne_eqb, eqb-true, eqb-false}
use lib.Dec.{eqb}
use Rattle.digits.specs.Bits.{bit, with_bit}
use Rattle.digits.specs.Digits.{low, both_decimal}
use Rattle.digits.specs.Packed.{sign_of, is_minus}
use Rattle.digits.proofs.Table.{alike}
use Rattle.digits.proofs.Truth.{true_not_false, both}
use Rattle.storage.specs.Storage.{whole, access_of}
use Rattle.adder.specs.Gates.{crossed}
use Rattle.adder.specs.Adder.{summed, result_of, sum_of}
use Rattle.adder.proofs.Laws.{arithmetic}
use Rattle.machine.specs.Sources.{entered, sum_in}
use Rattle.machine.specs.Branch.{next_of}
use Rattle.machine.specs.Status.{status_of}
use Rattle.codes.specs.Modelled.{unmodelled_of}
use Rattle.machine.specs.declared.State.{State}
use Rattle.run.proofs.Goes.{machine, Right}
use Rattle.decimal.proofs.Steps.{idle, run}
use Rattle.decimal.proofs.Places.{branch, fork, Marks, marked, marks, carries, view, showing, Place, at, at_with, in_r, resting, Reaches, Block, look_with, Refuses, Refusing, mark, marks_with}
use Rattle.decimal.proofs.Pairs.{one_more}
use Rattle.apsp.specs.Program.{signed_words}
use Rattle.apsp.specs.Numbers.{signed_byte}
use Rattle.apsp.specs.Entry.{DONE}
use Rattle.apsp.proofs.Own.{steps, refuses}

-- ---- what 15 and 16 make of a byte

abbrev turned : ℕ → ℕ
turned byte = (arithmetic false (crossed byte) 96 0).result

abbrev carried : ℕ → Bool
carried byte = (arithmetic false (crossed byte) 96 0).ac

abbrev tested : ℕ → ℕ
tested byte = (arithmetic false (turned byte) 64 0).result

-- the branch of 16 asks for a digit and a sign, and that of 1B for minus: over all 256 bytes
good_is : (byte : ℕ) → byte < 256 → carried byte && both_decimal (turned byte) ≡ signed_byte byte
unfolding summed result_of
good_is = alike 256 (λ (b : ℕ). carried b && both_decimal (turned b)) signed_byte tt

minus_is : (byte : ℕ) → byte < 256 → signed_byte byte && (not (bit (tested byte) 0) && bit (tested byte) 3) ≡ signed_byte byte && is_minus (sign_of (low byte))
unfolding summed result_of
minus_is = alike 256 (λ (b : ℕ). signed_byte b && (not (bit (tested b) 0) && bit (tested b) 3)) (λ (b : ℕ). signed_byte b && is_minus (sign_of (low b))) tt

-- ---- minus turns S0 over, and S6 on

abbrev pub turned_marks : Bool → Marks → Marks
turned_marks minus m = marked (cond minus (not m.s0) m.s0) m.s2 m.s4 (cond minus true m.s6) m.s7

-- S and 80
plus_80 : (s : ℕ) → marks (arithmetic false s 128 0).result ≡ marked (not (bit s 0)) (bit s 2) (bit s 4) (bit s 6) (bit s 7)
unfolding summed result_of marks
plus_80 s =
    let e2 : (s + 128 + 0) % 256 / 32 % 2 ≡ s / 32 % 2 = omega arith in
    let e4 : (s + 128 + 0) % 256 / 8 % 2 ≡ s / 8 % 2 = omega arith in
    let e6 : (s + 128 + 0) % 256 / 2 % 2 ≡ s / 2 % 2 = omega arith in
    let e7 : (s + 128 + 0) % 256 / 1 % 2 ≡ s / 1 % 2 = omega arith in
    λ i. marked (over (eqb (s / 128 % 2) 1) refl i) (eqb (e2 i) 1) (eqb (e4 i) 1) (eqb (e6 i) 1) (eqb (e7 i) 1)
  where
    over : (t : Bool) → eqb (s / 128 % 2) 1 ≡ t → eqb ((s + 128 + 0) % 256 / 128 % 2) 1 ≡ not t
    over true e = ne_eqb ((s + 128 + 0) % 256 / 128 % 2) 1 (λ z. omega (arith, eqb-true (s / 128 % 2) 1 e))
    over false e = eq-eqb ((s + 128 + 0) % 256 / 128 % 2) 1 (omega (arith, eqb-false (s / 128 % 2) 1 e))

minus_marks : (s : ℕ) (m : Marks) → marks s ≡ m → marks (with_bit (arithmetic false s 128 0).result 6 true) ≡ turned_marks true m
unfolding marks
minus_marks s m e =
    marks_with (arithmetic false s 128 0).result 6 true (omega arith) ∙ ap (mark 6 true) (plus_80 s)
    ∙ ap (λ (m : Marks). turned_marks true m) e

-- ---- the routine

module _ (local main : List ℕ) (a b l t : ℕ) (c : Bool) (m : Marks) where
  abbrev after : Bool → Place
  after minus = at (branch 0x20 m.s7) main (view a b l (suc l) c (turned_marks minus m))

  -- to one of 1C to 1F, by G0 and G3: three words alike for plus, and one for minus
  module _ (x : State) (right : Right signed_words (machine x main local)) (carry : carries x.h ≡ c) (status : marks x.s ≡ m) (few : l < 255)
      (sign : carried x.r ≡ true) (digit : both_decimal (turned x.r) ≡ true) where
    by_sign : (p q : Bool) → bit (tested x.r) 0 ≡ p → bit (tested x.r) 3 ≡ q → Reaches whole signed_words local 4 (machine (showing (view a b l t c m) 0x15 x) main local) (after (not p && q))
    unfolding entered sum_in sum_of access_of next_of status_of unmodelled_of marks
    by_sign false false e f =
        steps local (run 0x15 ∷ run 0x16 ∷ run 0x1B ∷ run 0x1C ∷ []) tt right
        (record {
          way = ((refl, refl), ((refl, refl), ((λ i. fork 0x18 (sign i) (digit i), refl), ((λ i. fork 0x1C (e i) (f i), refl), tt))));
          rests = refl;
          comes = ap (λ (m : Marks). branch 0x20 m.s7) status;
          stores = refl;
          known = record { first = refl; second = refl; l = refl; t = one_more l few; carry = carry; status = status };
        })
    by_sign true false e f =
        steps local (run 0x15 ∷ run 0x16 ∷ run 0x1B ∷ run 0x1E ∷ []) tt right
        (record {
          way = ((refl, refl), ((refl, refl), ((λ i. fork 0x18 (sign i) (digit i), refl), ((λ i. fork 0x1C (e i) (f i), refl), tt))));
          rests = refl;
          comes = ap (λ (m : Marks). branch 0x20 m.s7) status;
          stores = refl;
          known = record { first = refl; second = refl; l = refl; t = one_more l few; carry = carry; status = status };
        })
    by_sign true true e f =
        steps local (run 0x15 ∷ run 0x16 ∷ run 0x1B ∷ run 0x1F ∷ []) tt right
        (record {
          way = ((refl, refl), ((refl, refl), ((λ i. fork 0x18 (sign i) (digit i), refl), ((λ i. fork 0x1C (e i) (f i), refl), tt))));
          rests = refl;
          comes = ap (λ (m : Marks). branch 0x20 m.s7) status;
          stores = refl;
          known = record { first = refl; second = refl; l = refl; t = one_more l few; carry = carry; status = status };
        })
    by_sign false true e f =
        steps local (run 0x15 ∷ run 0x16 ∷ run 0x1B ∷ run 0x1D ∷ []) tt right
        (record {
          way = ((refl, refl), ((refl, refl), ((λ i. fork 0x18 (sign i) (digit i), refl), ((λ i. fork 0x1C (e i) (f i), refl), tt))));
          rests = refl;
          comes = ap (λ (m : Marks). branch 0x20 m.s7) status;
          stores = refl;
          known = record { first = refl; second = refl; l = refl; t = one_more l few; carry = carry; status = minus_marks x.s m status };
        })

  module _ (byte : ℕ) (small : byte < 256) where
    abbrev here : Place
    here = at_with 0x15 main (view a b l t c m) (in_r byte)

    -- a digit and a sign: on to 20, or to 21 where S7 is on
    pub good_sign : l < 255 → signed_byte byte ≡ true → Block whole signed_words local 4 here (after (is_minus (sign_of (low byte))))
    good_sign few good =
        look_with whole signed_words local 0x15 main (view a b l t c m) (in_r byte)
        (λ x right carry status r.
        let is : signed_byte x.r ≡ true = ap signed_byte r ∙ good in
        let less : x.r < 256 = rw r small in
        let (sign, digit) = both (carried x.r) (both_decimal (turned x.r)) (good_is x.r less ∙ is) in
        let minus : not (bit (tested x.r) 0) && bit (tested x.r) 3 ≡ is_minus (sign_of (low x.r)) = rw is at (minus_is x.r less) in
        subst (λ (on : Bool). Reaches whole signed_words local 4 (machine (showing (view a b l t c m) 0x15 x) main local) (after on)) (minus ∙ ap (λ (n : ℕ). is_minus (sign_of (low n))) r)
        (by_sign x right carry status few sign digit (bit (tested x.r) 0) (bit (tested x.r) 3) refl refl))

    -- a bad one: a stop at 18, 19 or 1A
    to_stop : (p q : Bool) → p && q ≡ false → (wx : ℕ) → fork 0x18 p q ≡ wx
        → Block whole signed_words local 2 (at_with 0x15 main (view a b l t c m) (λ (d : ℕ) (r : ℕ). (carried r ≡ p) × (both_decimal (turned r) ≡ q))) (resting wx main)
    unfolding entered sum_in sum_of access_of next_of status_of unmodelled_of marks
    to_stop p q bad wx e =
        look_with whole signed_words local 0x15 main (view a b l t c m) (λ (d : ℕ) (r : ℕ). (carried r ≡ p) × (both_decimal (turned r) ≡ q))
        (λ x right carry status tests.
        steps local (run 0x15 ∷ run 0x16 ∷ []) tt right
        (record { way = ((refl, refl), ((refl, refl), tt)); rests = refl; comes = (λ i. fork 0x18 (tests.0 i) (tests.1 i)) ∙ e; stores = refl; known = tt }))

    pub bad_sign : signed_byte byte ≡ false → Refusing whole signed_words local DONE 2 here main
    bad_sign bad x right (known, r) = by (carried x.r) (both_decimal (turned x.r)) refl refl (good_is x.r (rw r small) ∙ ap signed_byte r ∙ bad)
      where
        by : (p q : Bool) → carried x.r ≡ p → both_decimal (turned x.r) ≡ q → carried x.r && both_decimal (turned x.r) ≡ false
            → Refuses whole signed_words local DONE 2 (machine (idle 0x15 x) main local) main
        by false false e f k = refuses local 0x18 tt refl main (to_stop false false refl 0x18 refl) x right (known, (e, f))
        by false true e f k = refuses local 0x19 tt refl main (to_stop false true refl 0x19 refl) x right (known, (e, f))
        by true false e f k = refuses local 0x1A tt refl main (to_stop true false refl 0x1A refl) x right (known, (e, f))
        by true true e f k = absurd (true_not_false (λ i. e i && f i) k)
