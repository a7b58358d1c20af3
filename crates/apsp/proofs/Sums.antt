-- The words of AP and SP that sum, 10 and one of 24 to 27, with 12 and 13: true or complement as S0 tells, high digits alone where S4 is on, and nothing in the
-- first field's place where S7 is off. Assumes nothing.
use Prim.Native.Nat.{ℕ, suc, ◌*◌, ◌<◌, ◌≤◌}
use mathlib.Core.Path.{◌≡◌, refl, ap, ◌∙◌}
use mathlib.Core.List.{List, [], ◌∷◌}
use mathlib.Core.Bool.{Bool, true, false, cond, not, ◌||◌}
use lib.Dec.{eqb}
use lib.ListN.{length, get_or, set}
use Rattle.digits.specs.Bits.{one, bit, with_bit}
use Rattle.digits.specs.Digits.{high}
use Rattle.digits.proofs.Bits.{bit_with}
use Rattle.storage.specs.Storage.{whole, access_of}
use Rattle.storage.proofs.Inside.{In}
use Rattle.adder.specs.Adder.{sum_of, entering}
use Rattle.adder.proofs.Laws.{arithmetic}
use Rattle.adder.specs.declared.Sum.{Sum}
use Rattle.machine.specs.Sources.{entered, sum_in}
use Rattle.machine.specs.Branch.{next_of}
use Rattle.machine.specs.Status.{status_of}
use Rattle.codes.specs.Modelled.{unmodelled_of}
use Rattle.machine.specs.declared.State.{State}
use Rattle.run.proofs.Goes.{machine, Right}
use Rattle.decimal.proofs.Steps.{run}
use Rattle.decimal.proofs.Places.{branch, fork, Marks, marked, marks, carries, view, at, at_with, in_d, Block, look_with, saved, marks_2, marks_4, marks_5}
use Rattle.decimal.proofs.Pairs.{held, address, within, one_less, none_left, kept_carry}
use Rattle.decimal.proofs.Pass2.{Summing}
use Rattle.apsp.specs.Program.{signed_words}
use Rattle.apsp.proofs.Own.{leads, steps}

-- a number is not 0
abbrev pub some : ℕ → Bool
some n = not (eqb n 0)

-- of the last byte the high digit alone
abbrev pub digits_of : Bool → ℕ → ℕ
digits_of last byte = cond last (high byte * 16) byte

abbrev pub signed_sum : Marks → ℕ → ℕ → Bool → Sum
signed_sum m x y c = arithmetic true (cond m.s7 (digits_of m.s4 x) 0) (entering true m.s0 (digits_of m.s4 y)) (one c)

-- S2 on where the sum is not 0, S4 off
abbrev pub next_marks : Marks → ℕ → Marks
next_marks m r = marked m.s0 (m.s2 || some r) false m.s6 m.s7

-- 24 to 27 leave this of S
some_marks : (s r : ℕ) → marks (cond (eqb r 0) s (with_bit s 2 true)) ≡ marked (marks s).s0 ((marks s).s2 || some r) (marks s).s4 (marks s).s6 (marks s).s7
some_marks s r = by (eqb r 0)
  where
    off : (t : Bool) → t ≡ t || false
    off true = refl
    off false = refl

    on : (t : Bool) → true ≡ t || true
    on true = refl
    on false = refl

    by : (t : Bool) → marks (cond t s (with_bit s 2 true)) ≡ marked (marks s).s0 ((marks s).s2 || not t) (marks s).s4 (marks s).s6 (marks s).s7
    by true = λ i. marked (marks s).s0 (off (marks s).s2 i) (marks s).s4 (marks s).s6 (marks s).s7
    by false = marks_2 s true ∙ (λ i. marked (marks s).s0 (on (marks s).s2 i) (marks s).s4 (marks s).s6 (marks s).s7)

module _ (local main : List ℕ) (fits : length main ≤ 65536) (a b l k y : ℕ) (c : Bool) (ha : In whole (length main) a) (small : k < 255) (none : Bool) (e : eqb k 0 ≡ none) (p z minus : Bool) where
  module _ (x : State) (right : Right signed_words (machine x main local)) (carry : carries x.h ≡ c) (d : x.d ≡ y) (last first : Bool) (status : marks x.s ≡ marked p z last minus first) where
    abbrev m : Marks
    m = marked p z last minus first

    -- what 10 leaves of S
    abbrev s_10 : ℕ
    s_10 = with_bit (with_bit (with_bit x.s 4 false) 5 false) 3 (arithmetic false x.h 255 0).ac

    marks_10 : marks s_10 ≡ marked p z false minus first
    marks_10 = simp (saved, marks_5, marks_4, status)

    -- the sum as the machine has it
    abbrev its_sum : Sum
    its_sum = arithmetic true (cond first (digits_of last (get_or main (held a) 0)) 0) (entering true (bit s_10 0) (digits_of last x.d)) (one (bit s_10 3))

    sum_is : its_sum ≡ signed_sum m (get_or main a 0) y c
    unfolding marks
    sum_is =
        let place = address whole a (length main) ha fits in
        let s0 : bit s_10 0 ≡ p = ap (λ (m : Marks). m.s0) marks_10 in
        let s3 : bit s_10 3 ≡ c = bit_with _ 3 (arithmetic false x.h 255 0).ac ∙ carry in
        λ i. arithmetic true (cond first (digits_of last (get_or main (place i) 0)) 0) (entering true (s0 i) (digits_of last (d i))) (one (s3 i))

    marks_after : marks (cond (eqb its_sum.result 0) s_10 (with_bit s_10 2 true)) ≡ next_marks m (signed_sum m (get_or main a 0) y c).result
    marks_after =
        some_marks s_10 its_sum.result
        ∙ (λ i. marked (marks_10 i).s0 ((marks_10 i).s2 || some (sum_is i).result) (marks_10 i).s4 (marks_10 i).s6 (marks_10 i).s7)

    to_sum : fork 0x24 (bit x.s 4) (bit x.s 7) ≡ fork 0x24 last first
    unfolding marks
    to_sum = λ i. fork 0x24 (status i).s4 (status i).s7

  pub by_marks : (last first : Bool) → let m = marked p z last minus first in let s = signed_sum m (get_or main a 0) y c in
      Block whole signed_words local 4 (at_with 0x10 main (view a b l (suc k) c m) (in_d y)) (at (branch 0x0A none) (set main a s.result) (view a b l k s.ac (next_marks m s.result)))
  unfolding entered sum_in sum_of access_of next_of status_of unmodelled_of
  by_marks false false =
      let in_a = within whole a (length main) ha fits in
      look_with whole signed_words local 0x10 main (view a b l (suc k) c (marked p z false minus false)) (in_d y)
      (λ x right carry status d.
      steps local (run 0x10 ∷ run 0x24 ∷ run 0x12 ∷ run 0x13 ∷ []) tt right
      (record {
        way = ((refl, in_a), ((to_sum x right carry d false false status, refl), ((refl, in_a), ((refl, refl), tt))));
        rests = refl;
        comes = ap (branch 0x0A) (none_left k small ∙ e);
        stores = λ i. set main (address whole a (length main) ha fits i) (sum_is x right carry d false false status i).result;
        known = record {
          first = refl;
          second = refl;
          l = refl;
          t = one_less k small;
          carry = kept_carry _ _ ∙ ap (λ (s : Sum). s.ac) (sum_is x right carry d false false status);
          status = simp saved (marks_after x right carry d false false status);
        };
      }))
  by_marks false true =
      let in_a = within whole a (length main) ha fits in
      look_with whole signed_words local 0x10 main (view a b l (suc k) c (marked p z false minus true)) (in_d y)
      (λ x right carry status d.
      steps local (run 0x10 ∷ run 0x25 ∷ run 0x12 ∷ run 0x13 ∷ []) tt right
      (record {
        way = ((refl, in_a), ((to_sum x right carry d false true status, refl), ((refl, in_a), ((refl, refl), tt))));
        rests = refl;
        comes = ap (branch 0x0A) (none_left k small ∙ e);
        stores = λ i. set main (address whole a (length main) ha fits i) (sum_is x right carry d false true status i).result;
        known = record {
          first = refl;
          second = refl;
          l = refl;
          t = one_less k small;
          carry = kept_carry _ _ ∙ ap (λ (s : Sum). s.ac) (sum_is x right carry d false true status);
          status = simp saved (marks_after x right carry d false true status);
        };
      }))
  by_marks true false =
      let in_a = within whole a (length main) ha fits in
      look_with whole signed_words local 0x10 main (view a b l (suc k) c (marked p z true minus false)) (in_d y)
      (λ x right carry status d.
      steps local (run 0x10 ∷ run 0x26 ∷ run 0x12 ∷ run 0x13 ∷ []) tt right
      (record {
        way = ((refl, in_a), ((to_sum x right carry d true false status, refl), ((refl, in_a), ((refl, refl), tt))));
        rests = refl;
        comes = ap (branch 0x0A) (none_left k small ∙ e);
        stores = λ i. set main (address whole a (length main) ha fits i) (sum_is x right carry d true false status i).result;
        known = record {
          first = refl;
          second = refl;
          l = refl;
          t = one_less k small;
          carry = kept_carry _ _ ∙ ap (λ (s : Sum). s.ac) (sum_is x right carry d true false status);
          status = simp saved (marks_after x right carry d true false status);
        };
      }))
  by_marks true true =
      let in_a = within whole a (length main) ha fits in
      look_with whole signed_words local 0x10 main (view a b l (suc k) c (marked p z true minus true)) (in_d y)
      (λ x right carry status d.
      steps local (run 0x10 ∷ run 0x27 ∷ run 0x12 ∷ run 0x13 ∷ []) tt right
      (record {
        way = ((refl, in_a), ((to_sum x right carry d true true status, refl), ((refl, in_a), ((refl, refl), tt))));
        rests = refl;
        comes = ap (branch 0x0A) (none_left k small ∙ e);
        stores = λ i. set main (address whole a (length main) ha fits i) (sum_is x right carry d true true status i).result;
        known = record {
          first = refl;
          second = refl;
          l = refl;
          t = one_less k small;
          carry = kept_carry _ _ ∙ ap (λ (s : Sum). s.ac) (sum_is x right carry d true true status);
          status = simp saved (marks_after x right carry d true true status);
        };
      }))

unfoldable pub signing : (local : List ℕ) → Summing whole signed_words local
signing local =
    record {
      sum = signed_sum;
      next = next_marks;
      words = leads;
      four = λ main fits a b l k y c m ha small none e. by_marks local main fits a b l k y c ha small none e m.s0 m.s2 m.s6 m.s4 m.s7;
    }
