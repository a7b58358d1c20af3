-- The shipped words beside the passes: the store has its words; those that sum, 10 to 13; those before, between and after. Assumes nothing.
use Prim.Native.Nat.{ℕ, suc, ◌<◌, ◌≤◌}
use mathlib.Core.Path.{◌≡◌, refl, ap, ◌∙◌}
use mathlib.Core.List.{List, [], ◌∷◌}
use mathlib.Core.Bool.{Bool, true, false}
use lib.Count.{ones}
use lib.Dec.{T, eqb}
use lib.ListN.{length, get_or, set}
use Rattle.digits.specs.Bits.{one, bit, with_bit}
use Rattle.digits.proofs.Bits.{bit_with}
use Rattle.word.specs.Word.{packed, in_width}
use Rattle.storage.specs.Storage.{access_of}
use Rattle.storage.specs.declared.Fence.{Fence}
use Rattle.storage.proofs.Inside.{In}
use Rattle.adder.specs.Adder.{sum_of, entering}
use Rattle.adder.proofs.Laws.{arithmetic}
use Rattle.adder.specs.declared.Sum.{Sum}
use Rattle.machine.specs.Sources.{entered, sum_in}
use Rattle.machine.specs.Branch.{next_of}
use Rattle.machine.specs.Status.{status_of}
use Rattle.codes.specs.Modelled.{unmodelled_of}
use Rattle.machine.specs.declared.State.{State}
use Rattle.run.proofs.Goes.{Machine, machine, Halts, Right}
use Rattle.decimal.specs.Program.{program, shipped}
use Rattle.decimal.specs.Entry.{start, SUMMED}
use Rattle.decimal.proofs.Steps.{Has, has, addresses, basic, idle, Turn, run, all_going, turns, stop}
use Rattle.decimal.proofs.Places.{branch, Marks, marked, marks, view, Place, at, at_with, in_d, ended, Reaches, Block, look, look_with, Walks, walks, saved}
use Rattle.decimal.proofs.Pairs.{held, address, within, starts, one_less, none_left, same, kept_carry}
use Rattle.decimal.proofs.Pass1.{testing}
use Rattle.decimal.proofs.Pass2.{leading, Summing}

-- ---- the store has its words

own : Has shipped program (addresses program)
unfolding packed in_width ones shipped
own = has shipped program (addresses program) tt

pub tests : Has shipped program testing
unfolding packed in_width ones shipped
tests = has shipped program testing tt

pub leads : Has shipped program leading
unfolding packed in_width ones shipped
leads = has shipped program leading tt

steps : (fence : Fence) (local : List ℕ) (ws : List Turn) → T (all_going program (addresses program) ws) → {m : Machine} {q : Place} → Right shipped m → Walks fence program local ws m q → Reaches fence shipped local (turns ws) m q
steps fence local ws t right r = walks fence shipped program (addresses program) own local ws t right r

-- ---- 10 to 13: R + D + the carry in H, both bytes whole

abbrev plain_sum : Marks → ℕ → ℕ → Bool → Sum
plain_sum m x y c = arithmetic true x (entering true m.s0 y) (one c)

pub sums : (fence : Fence) (local main : List ℕ) → length main ≤ 65536 → (a b l k y : ℕ) (c : Bool) (m : Marks) → In fence (length main) a → k < 255 → (none : Bool) → eqb k 0 ≡ none
    → let z = plain_sum m (get_or main a 0) y c in
    Block fence shipped local 4 (at_with 0x10 main (view a b l (suc k) c m) (in_d y)) (at (branch 0x0A none) (set main a z.result) (view a b l k z.ac m))
unfolding entered sum_in sum_of access_of next_of status_of unmodelled_of marks
sums fence local main fits a b l k y c m ha small none e =
    look_with fence shipped local 0x10 main (view a b l (suc k) c m) (in_d y)
    (λ x right carry status d.
    let in_a = within fence a (length main) ha fits in
    let place = address fence a (length main) ha fits in
    let on : Bool = (arithmetic false x.h 255 0).ac in
    let s3 : bit (with_bit x.s 3 on) 3 ≡ c = bit_with x.s 3 on ∙ carry in
    let s0 : bit (with_bit x.s 3 on) 0 ≡ m.s0 = ap (λ (m : Marks). m.s0) (saved x.s on ∙ status) in
    let sum : ◌≡◌ {A = Sum} (arithmetic true (get_or main (held a) 0) (entering true (bit (with_bit x.s 3 on) 0) x.d) (one (bit (with_bit x.s 3 on) 3))) (plain_sum m (get_or main a 0) y c) =
    λ i. arithmetic true (get_or main (place i) 0) (entering true (s0 i) (d i)) (one (s3 i)) in
    steps fence local (run 0x10 ∷ run 0x11 ∷ run 0x12 ∷ run 0x13 ∷ []) tt right
    (record {
      way = ((refl, in_a), ((refl, refl), ((refl, in_a), ((refl, refl), tt))));
      rests = refl;
      comes = ap (branch 0x0A) (none_left k small ∙ e);
      stores = λ i. set main (place i) (sum i).result;
      known = record {
        first = refl;
        second = refl;
        l = refl;
        t = one_less k small;
        carry = kept_carry _ _ ∙ ap (λ (z : Sum). z.ac) sum;
        status = simp saved status;
      };
    }))

unfoldable pub plain : (fence : Fence) (local : List ℕ) → Summing fence shipped local
plain fence local = record { sum = plain_sum; next = λ m r. m; words = leads; four = sums fence local }

-- ---- before, between and after the passes

module _ (fence : Fence) (local main : List ℕ) (l : ℕ) (c : Bool) (m : Marks) where
  -- 03: T := L
  pub between : (a b : ℕ) → l < 256 → Block fence shipped local 1 (at 0x03 main (view a b l 0 c m)) (at 0x0A main (view a b l l c m))
  unfolding entered sum_in sum_of access_of next_of status_of unmodelled_of
  between a b small =
      look fence shipped local 0x03 main (view a b l 0 c m)
      (λ x right carry status.
      steps fence local (run 0x03 ∷ []) tt right
      (record { way = ((refl, refl), tt); rests = refl; comes = refl; stores = refl; known = record { first = refl; second = refl; l = refl; t = same l small; carry = carry; status = status } }))

  -- 0B: S3 := the carry in H
  pub at_last : (a b : ℕ) → Block fence shipped local 1 (at 0x0B main (view a b l 0 c m)) (ended SUMMED main c)
  unfolding entered sum_in sum_of access_of next_of status_of unmodelled_of
  at_last a b =
      look fence shipped local 0x0B main (view a b l 0 c m)
      (λ x right carry status.
      steps fence local (run 0x0B ∷ []) tt right
      (record { way = ((refl, refl), tt); rests = refl; comes = refl; stores = refl; known = bit_with x.s 3 (arithmetic false x.h 255 0).ac ∙ carry }))

-- 14: stop
pub stop_14 : (fence : Fence) (local main : List ℕ) (x : State) → Right shipped (machine x main local) → Halts (basic fence shipped) (machine (idle SUMMED x) main local)
stop_14 fence local main x right = stop fence shipped program (addresses program) own SUMMED tt (machine (idle SUMMED x) main local) right refl

-- 00 and 01: H := the carry in S3, T := L
pub begins : (fence : Fence) (local main : List ℕ) (a b n : ℕ) (c : Bool) → Right shipped (machine (start a b n c) main local) → a < 65536 → b < 65536 → n < 256
    → Reaches fence shipped local 2 (machine (start a b n c) main local) (at 0x02 main (view a b n n c (marked false false false false false)))
unfolding entered sum_in sum_of access_of next_of status_of unmodelled_of marks
begins fence local main a b n c right ha hb small =
    steps fence local (run 0x00 ∷ run 0x01 ∷ []) tt right
    (record { way = ((refl, refl), ((refl, refl), tt)); rests = refl; comes = refl; stores = refl; known = record { first = starts a ha; second = starts b hb; l = refl; t = same n small; carry = kept_carry 0 c; status = simp saved none } })
  where
    none : marks 0 ≡ marked false false false false false
    none = refl
