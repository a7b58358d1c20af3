-- The first pass, a byte of each field at a time: 02, 04, 07, 05, 09, in any store that has these words. Assumes nothing.
use Prim.Native.Nat.{ℕ, zero, suc, ◌+◌, ◌*◌, ◌<◌, ◌≤◌}
use mathlib.Core.Path.{◌≡◌, refl, ap, ◌∙◌}
use mathlib.Core.List.{List, [], ◌∷◌}
use mathlib.Core.Bool.{Bool, true, false, cond, ◌&&◌}
use native.Mathlib.Omega.{arith}
use lib.Dec.{eqb}
use lib.ListN.{length, get_or}
use lib.Seq.{set-get_or}
use Rattle.digits.specs.Digits.{both_decimal}
use Rattle.digits.proofs.Truth.{true_not_false, both}
use Rattle.storage.specs.Storage.{access_of}
use Rattle.storage.specs.declared.Fence.{Fence}
use Rattle.storage.proofs.Inside.{In}
use Rattle.adder.specs.Adder.{sum_of}
use Rattle.machine.specs.Sources.{entered, sum_in}
use Rattle.machine.specs.Branch.{next_of}
use Rattle.machine.specs.Status.{status_of}
use Rattle.codes.specs.Modelled.{unmodelled_of}
use Rattle.decimal.specs.Program.{program}
use Rattle.decimal.specs.Value.{decimal_field}
use Rattle.decimal.specs.Promise.{until_bad}
use Rattle.decimal.proofs.Steps.{Has, run, back}
use Rattle.decimal.proofs.Places.{branch, Marks, view, Place, at, Block, then, said, look, walks, Refusing, then_refuses, refuse, saved}
use Rattle.decimal.proofs.Pairs.{up, held, address, within, Lies, first_in, next_lies, one_less, none_left, some_left}

abbrev pub testing : List ℕ
testing = 0x02 ∷ 0x04 ∷ 0x05 ∷ 0x06 ∷ 0x07 ∷ 0x08 ∷ 0x09 ∷ []

module _ (fence : Fence) (store local : List ℕ) (w : Has store program testing) (main : List ℕ) (fits : length main ≤ 65536) where
  module _ (a b l k : ℕ) (c : Bool) (m : Marks) (ha : In fence (length main) a) (hb : In fence (length main) b) (small : k < 255) where
    abbrev here : Place
    here = at 0x02 main (view a b l (suc k) c m)

    -- a byte of each field that is decimal
    five : (none : Bool) → eqb k 0 ≡ none → both_decimal (get_or main b 0) ≡ true → both_decimal (get_or main a 0) ≡ true
        → Block fence store local 5 here (at (branch 0x02 none) main (view (a + 1) (b + 1) l k c m))
    unfolding entered sum_in sum_of access_of next_of status_of unmodelled_of
    five none e db da =
        let in_a = within fence a (length main) ha fits in
        let in_b = within fence b (length main) hb fits in
        let to-07 : both_decimal (get_or main (held b) 0) ≡ true = rw (address fence b (length main) hb fits) db in
        let to-09 : both_decimal (get_or main (held a) 0) ≡ true = rw (address fence a (length main) ha fits) da in
        look fence store local 0x02 main (view a b l (suc k) c m)
        (λ x right carry status.
        walks fence store program testing w local (run 0x02 ∷ back 0x04 ∷ run 0x07 ∷ back 0x05 ∷ run 0x09 ∷ []) tt right
        (record {
          way = ((refl, in_b), ((refl, in_b), set-get_or main _ 0, ((ap (branch 0x06) to-07, in_a), ((refl, in_a), set-get_or main _ 0, ((ap (branch 0x08) to-09, refl), tt)))));
          rests = refl;
          comes = ap (branch 0x02) (none_left k small ∙ e);
          stores = refl;
          known = record { first = up _ a; second = up _ b; l = refl; t = one_less k small; carry = carry; status = simp saved status };
        }))

    -- one of the second field that is not, and one of the first
    bad_second : (done : ℕ) → eqb 0x06 done ≡ false → both_decimal (get_or main b 0) ≡ false → Refusing fence store local done 2 here main
    unfolding entered sum_in sum_of access_of next_of status_of unmodelled_of
    bad_second done apart db =
        let in_b = within fence b (length main) hb fits in
        let to-06 : both_decimal (get_or main (held b) 0) ≡ false = rw (address fence b (length main) hb fits) db in
        refuse fence store program testing w local done 0x06 tt apart main
        (look fence store local 0x02 main (view a b l (suc k) c m)
        (λ x right carry status.
        walks fence store program testing w local (run 0x02 ∷ back 0x04 ∷ []) tt right
        (record { way = ((refl, in_b), ((refl, in_b), set-get_or main _ 0, tt)); rests = refl; comes = ap (branch 0x06) to-06; stores = refl; known = tt })))

    bad_first : (done : ℕ) → eqb 0x08 done ≡ false → both_decimal (get_or main b 0) ≡ true → both_decimal (get_or main a 0) ≡ false → Refusing fence store local done 4 here main
    unfolding entered sum_in sum_of access_of next_of status_of unmodelled_of
    bad_first done apart db da =
        let in_a = within fence a (length main) ha fits in
        let in_b = within fence b (length main) hb fits in
        let to-07 : both_decimal (get_or main (held b) 0) ≡ true = rw (address fence b (length main) hb fits) db in
        let to-08 : both_decimal (get_or main (held a) 0) ≡ false = rw (address fence a (length main) ha fits) da in
        refuse fence store program testing w local done 0x08 tt apart main
        (look fence store local 0x02 main (view a b l (suc k) c m)
        (λ x right carry status.
        walks fence store program testing w local (run 0x02 ∷ back 0x04 ∷ run 0x07 ∷ back 0x05 ∷ []) tt right
        (record {
          way = ((refl, in_b), ((refl, in_b), set-get_or main _ 0, ((ap (branch 0x06) to-07, in_a), ((refl, in_a), set-get_or main _ 0, tt))));
          rests = refl;
          comes = ap (branch 0x08) to-08;
          stores = refl;
          known = tt;
        })))

  -- all bytes
  module _ (l : ℕ) (c : Bool) (m : Marks) where
    pub good : (n a b : ℕ) → n < 255 → Lies fence (length main) a (suc n) → Lies fence (length main) b (suc n) → decimal_field main b (suc n) ≡ true → decimal_field main a (suc n) ≡ true
        → Block fence store local (suc n * 5) (at 0x02 main (view a b l (suc n) c m)) (at 0x03 main (view (a + suc n) (b + suc n) l 0 c m))
    good zero a b small ha hb db da = five a b l 0 c m (first_in ha) (first_in hb) small true refl (both _ _ db).0 (both _ _ da).0
    good (suc n) a b small ha hb db da =
        let (db₀, db₁) = both (both_decimal (get_or main b 0)) (decimal_field main (b + 1) (suc n)) db in
        let (da₀, da₁) = both (both_decimal (get_or main a 0)) (decimal_field main (a + 1) (suc n)) da in
        let ea : a + 1 + suc n ≡ a + suc (suc n) = omega arith in
        let eb : b + 1 + suc n ≡ b + suc (suc n) = omega arith in
        said fence store local (omega arith) (λ i. at 0x03 main (view (ea i) (eb i) l 0 c m))
        (then fence store local (five a b l (suc n) c m (first_in ha) (first_in hb) small false (some_left n) db₀ da₀) (good n (a + 1) (b + 1) (omega arith) (next_lies ha) (next_lies hb) db₁ da₁))

    module _ (done : ℕ) (no-06 : eqb 0x06 done ≡ false) (no-08 : eqb 0x08 done ≡ false) where
      -- a byte that is not decimal, or both are
      early : (n a b : ℕ) → n < 255 → Lies fence (length main) a (suc n) → Lies fence (length main) b (suc n)
          → (both_decimal (get_or main b 0) ≡ true → both_decimal (get_or main a 0) ≡ true → Refusing fence store local done (5 + until_bad main (a + 1) (b + 1) n) (at 0x02 main (view a b l (suc n) c m)) main)
          → Refusing fence store local done (until_bad main a b (suc n)) (at 0x02 main (view a b l (suc n) c m)) main
      unfolding until_bad
      early n a b small ha hb later = by (both_decimal (get_or main b 0)) (both_decimal (get_or main a 0)) refl refl
        where
          by : (p q : Bool) → both_decimal (get_or main b 0) ≡ p → both_decimal (get_or main a 0) ≡ q
              → Refusing fence store local done (cond p (cond q (5 + until_bad main (a + 1) (b + 1) n) 4) 2) (at 0x02 main (view a b l (suc n) c m)) main
          by false q db da = bad_second a b l n c m (first_in ha) (first_in hb) small done no-06 db
          by true false db da = bad_first a b l n c m (first_in ha) (first_in hb) small done no-08 db da
          by true true db da = later db da

      pub bad : (n a b : ℕ) → n < 255 → Lies fence (length main) a (suc n) → Lies fence (length main) b (suc n) → decimal_field main a (suc n) && decimal_field main b (suc n) ≡ false
          → Refusing fence store local done (until_bad main a b (suc n)) (at 0x02 main (view a b l (suc n) c m)) main
      bad zero a b small ha hb e = early 0 a b small ha hb (λ db da. absurd (true_not_false refl (rw (da, db) at e)))
      bad (suc n) a b small ha hb e =
          early (suc n) a b small ha hb
          (λ db da.
          then_refuses fence store local (five a b l (suc n) c m (first_in ha) (first_in hb) small false (some_left n) db da)
          (bad n (a + 1) (b + 1) (omega arith) (next_lies ha) (next_lies hb) (rw (da, db) at e)))
