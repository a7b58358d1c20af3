-- The words of AP and SP after a pass that sums: 0B, 14 and 28 to 2B; the sign, 2C to 2E, 30 or 32, 31, 33; to complement again, 2F, 34 or 36, 22, 23, 35. Assumes nothing.
use Prim.Native.Nat.{ℕ, suc, ◌+◌, ◌/◌, ◌%◌, ◌<◌, ◌≤◌}
use mathlib.Core.Path.{◌≡◌, refl, ◌∙◌}
use mathlib.Core.List.{List, [], ◌∷◌}
use mathlib.Core.Bool.{Bool, true, false, cond, not, ◌||◌}
use lib.Dec.{leb}
use lib.ListN.{length, get_or, set}
use Rattle.digits.specs.Bits.{one, with_bit}
use Rattle.digits.proofs.Bits.{bit_with}
use Rattle.storage.specs.Storage.{beyond, whole, access_of}
use Rattle.storage.proofs.Inside.{In}
use Rattle.adder.specs.Adder.{summed, result_of, sum_of}
use Rattle.adder.specs.declared.Sum.{Sum}
use Rattle.adder.proofs.Laws.{arithmetic, arithmetic_byte}
use Rattle.machine.specs.Sources.{entered, sum_in}
use Rattle.machine.specs.Branch.{next_of}
use Rattle.machine.specs.Status.{status_of}
use Rattle.codes.specs.Modelled.{unmodelled_of}
use Rattle.machine.specs.declared.State.{State}
use Rattle.run.proofs.Goes.{machine, Halts, Right}
use Rattle.decimal.proofs.Steps.{addresses, basic, idle, run, stop}
use Rattle.decimal.proofs.Places.{branch, fork, Marks, marked, marks, carries, view, at, ended, Block, look, saved, marks_6, marks_7}
use Rattle.decimal.proofs.Pairs.{low_sum, high_sum, up, along, held, address, within, copied, one_more}
use Rattle.apsp.specs.Program.{signed_program, signed_words}
use Rattle.apsp.specs.Entry.{DONE}
use Rattle.apsp.proofs.Own.{own, steps}

-- ---- what came out

-- where a pass leads: to 2C with zero, to 2E with another number, to 2D with an overflow, to 2F to complement again
abbrev pub ahead : Bool → Bool → Bool → Bool → ℕ
ahead false false z first = fork 0x2C z false
ahead false true z first = 0x2D
ahead true true z first = fork 0x2C z false
ahead true false z first = branch 0x2E first

-- S3 twice changed
still : (s : ℕ) (on off : Bool) (m : Marks) → marks s ≡ m → marks (with_bit (with_bit s 3 on) 3 off) ≡ m
still s on off m e = simp saved e

-- the carry out in S3, and I J at the last byte
module _ (local main : List ℕ) (a b l t : ℕ) (z last minus first : Bool) (small : l < 256) where
  pub three : (p c : Bool) → let m = marked p z last minus first in
      Block whole signed_words local 3 (at 0x0B main (view a b l t c m)) (at (ahead p c z first) main (view (a + l) b l t c m))
  unfolding entered sum_in sum_of access_of next_of status_of unmodelled_of marks
  three false false =
      look whole signed_words local 0x0B main (view a b l t false (marked false z last minus first))
      (λ x right carry status.
      steps local (run 0x0B ∷ run 0x14 ∷ run 0x28 ∷ []) tt right
      (record {
        way = ((refl, refl), ((refl, refl), ((λ i. fork 0x28 ((saved x.s (carries x.h) ∙ status) i).s0 ((bit_with x.s 3 (carries x.h) ∙ carry) i), refl), tt)));
        rests = refl;
        comes = λ i. fork 0x2C (still x.s (carries x.h) (low_sum a l false).ac (marked false z last minus first) status i).s2 false;
        stores = refl;
        known = record { first = along _ a l small; second = refl; l = refl; t = refl; carry = carry; status = simp saved status };
      }))
  three false true =
      look whole signed_words local 0x0B main (view a b l t true (marked false z last minus first))
      (λ x right carry status.
      steps local (run 0x0B ∷ run 0x14 ∷ run 0x29 ∷ []) tt right
      (record {
        way = ((refl, refl), ((refl, refl), ((λ i. fork 0x28 ((saved x.s (carries x.h) ∙ status) i).s0 ((bit_with x.s 3 (carries x.h) ∙ carry) i), refl), tt)));
        rests = refl;
        comes = refl;
        stores = refl;
        known = record { first = along _ a l small; second = refl; l = refl; t = refl; carry = carry; status = simp saved status };
      }))
  three true false =
      look whole signed_words local 0x0B main (view a b l t false (marked true z last minus first))
      (λ x right carry status.
      steps local (run 0x0B ∷ run 0x14 ∷ run 0x2A ∷ []) tt right
      (record {
        way = ((refl, refl), ((refl, refl), ((λ i. fork 0x28 ((saved x.s (carries x.h) ∙ status) i).s0 ((bit_with x.s 3 (carries x.h) ∙ carry) i), refl), tt)));
        rests = refl;
        comes = λ i. branch 0x2E (still x.s (carries x.h) (low_sum a l false).ac (marked true z last minus first) status i).s7;
        stores = refl;
        known = record { first = along _ a l small; second = refl; l = refl; t = refl; carry = carry; status = simp saved status };
      }))
  three true true =
      look whole signed_words local 0x0B main (view a b l t true (marked true z last minus first))
      (λ x right carry status.
      steps local (run 0x0B ∷ run 0x14 ∷ run 0x2B ∷ []) tt right
      (record {
        way = ((refl, refl), ((refl, refl), ((λ i. fork 0x28 ((saved x.s (carries x.h) ∙ status) i).s0 ((bit_with x.s 3 (carries x.h) ∙ carry) i), refl), tt)));
        rests = refl;
        comes = λ i. fork 0x2C (still x.s (carries x.h) (low_sum a l false).ac (marked true z last minus first) status i).s2 false;
        stores = refl;
        known = record { first = along _ a l small; second = refl; l = refl; t = refl; carry = carry; status = simp saved status };
      }))

-- ---- the sign

-- the last byte with its sign, C or D
abbrev pub signed_last : ℕ → Bool → ℕ
signed_last byte minus = (arithmetic false byte (12 + one minus) 0).result

module _ (local main : List ℕ) (fits : length main ≤ 65536) (a b l t : ℕ) (c p z last first : Bool) (ha : In whole (length main) a) where
  in_a : ◌≡◌ {A = Bool} (leb (length main) (held a) || beyond whole (held a)) false
  in_a = within whole a (length main) ha fits

  there : held a ≡ a
  there = address whole a (length main) ha fits

  -- zero is plus
  pub seals_zero : (minus : Bool) → Block whole signed_words local 3 (at 0x2C main (view a b l t c (marked p z last minus first))) (ended DONE (set main a (signed_last (get_or main a 0) false)) false)
  unfolding entered sum_in sum_of access_of next_of status_of unmodelled_of marks summed result_of
  seals_zero minus =
      look whole signed_words local 0x2C main (view a b l t c (marked p z last minus first))
      (λ x right carry status.
      steps local (run 0x2C ∷ run 0x30 ∷ run 0x31 ∷ []) tt right
      (record {
        way = ((refl, in_a), ((refl, refl), ((refl, in_a), tt)));
        rests = refl;
        comes = refl;
        stores = λ i. set main (there i) (signed_last (get_or main (there i) 0) false);
        known = bit_with x.s 3 false;
      }))

  -- any other number has its own sign, and so has one that overflowed
  pub seals : (over minus : Bool) → Block whole signed_words local 3 (at (cond over 0x2D 0x2E) main (view a b l t c (marked p z last minus first))) (ended DONE (set main a (signed_last (get_or main a 0) minus)) over)
  unfolding entered sum_in sum_of access_of next_of status_of unmodelled_of marks summed result_of
  seals false false =
      look whole signed_words local 0x2E main (view a b l t c (marked p z last false first))
      (λ x right carry status.
      steps local (run 0x2E ∷ run 0x30 ∷ run 0x31 ∷ []) tt right
      (record {
        way = ((refl, in_a), ((λ i. fork 0x30 (status i).s6 false, refl), ((refl, in_a), tt)));
        rests = refl;
        comes = refl;
        stores = λ i. set main (there i) (signed_last (get_or main (there i) 0) false);
        known = bit_with x.s 3 false;
      }))
  seals false true =
      look whole signed_words local 0x2E main (view a b l t c (marked p z last true first))
      (λ x right carry status.
      steps local (run 0x2E ∷ run 0x32 ∷ run 0x31 ∷ []) tt right
      (record {
        way = ((refl, in_a), ((λ i. fork 0x30 (status i).s6 false, refl), ((refl, in_a), tt)));
        rests = refl;
        comes = refl;
        stores = λ i. set main (there i) (signed_last (get_or main (there i) 0) true);
        known = bit_with x.s 3 false;
      }))
  seals true false =
      look whole signed_words local 0x2D main (view a b l t c (marked p z last false first))
      (λ x right carry status.
      steps local (run 0x2D ∷ run 0x30 ∷ run 0x31 ∷ []) tt right
      (record {
        way = ((refl, in_a), ((λ i. fork 0x30 (status i).s6 false, refl), ((refl, in_a), tt)));
        rests = refl;
        comes = refl;
        stores = λ i. set main (there i) (signed_last (get_or main (there i) 0) false);
        known = bit_with x.s 3 true;
      }))
  seals true true =
      look whole signed_words local 0x2D main (view a b l t c (marked p z last true first))
      (λ x right carry status.
      steps local (run 0x2D ∷ run 0x32 ∷ run 0x31 ∷ []) tt right
      (record {
        way = ((refl, in_a), ((λ i. fork 0x30 (status i).s6 false, refl), ((refl, in_a), tt)));
        rests = refl;
        comes = refl;
        stores = λ i. set main (there i) (signed_last (get_or main (there i) 0) true);
        known = bit_with x.s 3 true;
      }))

pub stop_33 : (local main : List ℕ) (x : State) → Right signed_words (machine x main local) → Halts (basic whole signed_words) (machine (idle DONE x) main local)
stop_33 local main x right = stop whole signed_words signed_program (addresses signed_program) own DONE tt (machine (idle DONE x) main local) right refl

-- ---- to complement again

-- both addresses one past the field's end, the sign turned over, S7 off
module _ (local main : List ℕ) (a b l t : ℕ) (c p z last first : Bool) (small : l < 255) where
  again_marks : (s : ℕ) (u v minus on : Bool) → marks s ≡ marked p z last minus first → marks (with_bit (with_bit (with_bit (with_bit s 3 u) 6 on) 3 v) 7 false) ≡ marked p z last on false
  again_marks s u v minus on e = simp (saved, marks_6, marks_7, e)

  pub again : (minus : Bool) → Block whole signed_words local 5 (at 0x2F main (view a b l t c (marked p z last minus first))) (at 0x21 main (view (a + 1) (a + 1) l (suc l) c (marked p z last (not minus) false)))
  unfolding entered sum_in sum_of access_of next_of status_of unmodelled_of marks
  again false =
      look whole signed_words local 0x2F main (view a b l t c (marked p z last false first))
      (λ x right carry status.
      let high : Sum = high_sum x.s a 0 0 true in
      let low : Sum = low_sum a 0 true in
      steps local (run 0x2F ∷ run 0x34 ∷ run 0x22 ∷ run 0x23 ∷ run 0x35 ∷ []) tt right
      (record {
        way = ((refl, refl), ((λ i. fork 0x34 (status i).s6 false, refl), ((refl, refl), ((refl, refl), ((refl, refl), tt)))));
        rests = refl;
        comes = refl;
        stores = refl;
        known = record {
          first = up x.s a;
          second = copied high.result low.result (arithmetic_byte false (a / 256 % 256) 0 _) (arithmetic_byte false (a % 256) 0 1) ∙ up x.s a;
          l = refl;
          t = one_more l small;
          carry = carry;
          status = again_marks x.s low.ac high.ac false true status;
        };
      }))
  again true =
      look whole signed_words local 0x2F main (view a b l t c (marked p z last true first))
      (λ x right carry status.
      let high : Sum = high_sum x.s a 0 0 true in
      let low : Sum = low_sum a 0 true in
      steps local (run 0x2F ∷ run 0x36 ∷ run 0x22 ∷ run 0x23 ∷ run 0x35 ∷ []) tt right
      (record {
        way = ((refl, refl), ((λ i. fork 0x34 (status i).s6 false, refl), ((refl, refl), ((refl, refl), ((refl, refl), tt)))));
        rests = refl;
        comes = refl;
        stores = refl;
        known = record {
          first = up x.s a;
          second = copied high.result low.result (arithmetic_byte false (a / 256 % 256) 0 _) (arithmetic_byte false (a % 256) 0 1) ∙ up x.s a;
          l = refl;
          t = one_more l small;
          carry = carry;
          status = again_marks x.s low.ac high.ac true false status;
        };
      }))
