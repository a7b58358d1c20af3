-- The words of AP and SP before a pass that sums: 00 and 01, the last byte of each field (03 and 11, 20 and 17), 21. Assumes nothing.
use Prim.Native.Nat.{ℕ, suc, ◌+◌, ◌/◌, ◌%◌, ◌<◌, ◌≤◌}
use mathlib.Core.Path.{◌≡◌, refl, ap, ◌∙◌}
use mathlib.Core.List.{List, [], ◌∷◌}
use mathlib.Core.Bool.{Bool, true, false}
use native.Mathlib.Omega.{arith}
use lib.Bits.{bit_and}
use lib.Dec.{eqb}
use lib.ListN.{length, get_or}
use lib.Seq.{set-get_or}
use Rattle.digits.specs.Bits.{bit}
use Rattle.digits.specs.Digits.{high, low}
use Rattle.digits.proofs.Table.{alike}
use Rattle.storage.specs.Storage.{whole, access_of}
use Rattle.storage.proofs.Inside.{In}
use Rattle.adder.specs.Gates.{crossed}
use Rattle.adder.specs.Adder.{summed, result_of, sum_of}
use Rattle.machine.specs.Sources.{entered, sum_in}
use Rattle.machine.specs.Branch.{next_of}
use Rattle.machine.specs.Status.{status_of}
use Rattle.codes.specs.Modelled.{unmodelled_of}
use Rattle.run.proofs.Goes.{machine, Right}
use Rattle.decimal.proofs.Steps.{run, back}
use Rattle.decimal.proofs.Places.{branch, Marks, marked, marks, carries, view, at, at_with, in_r, Reaches, Block, look, mark, marks_with, saved, marks_4, marks_6, marks_7}
use Rattle.decimal.proofs.Pairs.{up, address, within, starts, one_less, none_left}
use Rattle.apsp.specs.Program.{signed_words}
use Rattle.apsp.specs.Entry.{signed_start}
use Rattle.apsp.proofs.Own.{steps}

-- 00 and 01: T and L are the bytes before the last
pub begins : (local main : List ℕ) (a b k : ℕ) (subtract : Bool) → Right signed_words (machine (signed_start a b (suc k) subtract) main local) → a < 65536 → b < 65536 → k < 255
    → (none : Bool) → eqb k 0 ≡ none
    → Reaches whole signed_words local 2 (machine (signed_start a b (suc k) subtract) main local) (at (branch 0x02 none) main (view a b k k false (marked subtract false false false false)))
unfolding entered sum_in sum_of access_of next_of status_of unmodelled_of summed result_of marks
begins local main a b k subtract right ha hb small none e =
    steps local (run 0x00 ∷ run 0x01 ∷ []) tt right
    (record {
      way = ((refl, refl), ((refl, refl), tt));
      rests = refl;
      comes = ap (branch 0x02) (none_left k small ∙ e);
      stores = refl;
      known = record {
        first = starts a ha;
        second = starts b hb;
        l = one_less k small;
        t = one_less k small;
        carry = no_carry;
        status = marks_with 0 0 subtract (omega arith) ∙ nothing;
      };
    })
  where
    no_carry : carries 0 ≡ false
    no_carry = refl

    nothing : mark 0 subtract (marks 0) ≡ marked subtract false false false false
    nothing = refl

-- the high digit of S and 8: it carries where S0 is on, and has no high digit
abbrev eight : ℕ → ℕ
eight s = bit_and (low (crossed s)) 8

s0_carries : (s : ℕ) → carries (eight s) ≡ bit s 0
unfolding summed result_of
s0_carries s =
    let e : low (crossed s) ≡ s / 16 % 16 = omega arith in
    let f : s / 16 / 8 ≡ s / 128 = omega arith in
    alike 16 (λ (d : ℕ). carries (bit_and d 8)) (λ (d : ℕ). eqb (d / 8) 1) tt (low (crossed s)) (omega arith) ∙ (λ i. eqb (e i / 8) 1) ∙ (λ i. eqb (upper (s / 16) i) 1) ∙ (λ i. eqb (f i % 2) 1)
  where
    upper : (q : ℕ) → q % 16 / 8 ≡ q / 8 % 2
    upper q = omega arith

high_none : (s : ℕ) → eqb (high (eight s)) 0 ≡ true
high_none s = alike 16 (λ (d : ℕ). eqb (high (bit_and d 8)) 0) (λ (d : ℕ). true) tt (low (crossed s)) (omega arith)

module _ (local main : List ℕ) (fits : length main ≤ 65536) (a b l t : ℕ) (c : Bool) (m : Marks) where
  -- 03 and 11: the second field's last byte in R
  pub second_read : In whole (length main) b → Block whole signed_words local 2 (at 0x03 main (view a b l t c m)) (at_with 0x15 main (view a (b + 1) l t c m) (in_r (get_or main b 0)))
  unfolding entered sum_in sum_of access_of next_of status_of unmodelled_of
  second_read hb =
      let in_b = within whole b (length main) hb fits in
      look whole signed_words local 0x03 main (view a b l t c m)
      (λ x right carry status.
      steps local (run 0x03 ∷ back 0x11 ∷ []) tt right
      (record {
        way = ((refl, in_b), ((refl, in_b), set-get_or main _ 0, tt));
        rests = refl;
        comes = refl;
        stores = refl;
        known = (record { first = refl; second = up _ b; l = refl; t = refl; carry = carry; status = simp saved status }, ap (λ (k : ℕ). get_or main k 0) (address whole b (length main) hb fits));
      }))

  -- 20 and 17: the first field's; S6 off, S7 on
  pub first_read : In whole (length main) a
      → Block whole signed_words local 2 (at 0x20 main (view a b l t c m)) (at_with 0x15 main (view (a + 1) b l t c (marked m.s0 m.s2 m.s4 false true)) (in_r (get_or main a 0)))
  unfolding entered sum_in sum_of access_of next_of status_of unmodelled_of
  first_read ha =
      let in_a = within whole a (length main) ha fits in
      look whole signed_words local 0x20 main (view a b l t c m)
      (λ x right carry status.
      steps local (run 0x20 ∷ back 0x17 ∷ []) tt right
      (record {
        way = ((refl, in_a), ((refl, in_a), set-get_or main _ 0, tt));
        rests = refl;
        comes = refl;
        stores = refl;
        known = (record { first = up _ a; second = refl; l = refl; t = refl; carry = carry; status = simp (saved, marks_6, marks_7, status) }, ap (λ (k : ℕ). get_or main k 0) (address whole a (length main) ha fits));
      }))

  -- 21: the first carry is S0, and S4 is on
  pub readied : Block whole signed_words local 1 (at 0x21 main (view a b l t c m)) (at 0x0A main (view a b l t m.s0 (mark 4 true m)))
  unfolding entered sum_in sum_of result_of access_of next_of status_of unmodelled_of marks
  readied =
      look whole signed_words local 0x21 main (view a b l t c m)
      (λ x right carry status.
      steps local (run 0x21 ∷ []) tt right
      (record {
        way = ((refl, refl), tt);
        rests = refl;
        comes = refl;
        stores = refl;
        known = record {
          first = refl;
          second = refl;
          l = refl;
          t = refl;
          carry = s0_carries x.s ∙ ap (λ (m : Marks). m.s0) status;
          status = rw (high_none x.s) (marks_4 x.s true ∙ ap (mark 4 true) status);
        };
      }))
