-- The four endings of AP and SP: a sum, one that overflows, a difference, and one that is complemented again. Assumes nothing.
use Prim.Native.Nat.{ℕ, suc, ◌+◌, ◌-◌, ◌*◌, ◌^◌, ◌<◌, ◌≤◌}
use mathlib.Core.Path.{◌≡◌, refl, sym, ap, subst, ◌∙◌}
use mathlib.Core.List.{List}
use mathlib.Core.Bool.{Bool, true, false, cond, not, ◌&&◌}
use mathlib.Core.Logic.{◌⊎◌}
use native.Mathlib.Omega.{arith}
use native.Mathlib.Nat.{one-le-pow}
use borrow.Author.Tests.{eq-eqb, ne_eqb, eqb-true, eqb-false, le-leb, lt-leb, leb-true, le-ltb, lt-ltb}
use lib.Dec.{eqb, leb, ltb, lit<}
use lib.ListN.{length, get_or, set, length-set}
use Rattle.digits.specs.Bits.{one}
use Rattle.digits.specs.Digits.{high, low}
use Rattle.digits.specs.Packed.{sign_of, is_none, preferred, signed_bytes}
use Rattle.digits.proofs.Truth.{both}
use Rattle.storage.specs.Storage.{whole}
use Rattle.storage.proofs.Inside.{In}
use Rattle.run.proofs.Goes.{Machine}
use Rattle.decimal.specs.Value.{value, decimal_field}
use Rattle.decimal.proofs.Places.{marked, view, Place, at, ended, Reaches, Block, on, then, told, said}
use Rattle.decimal.proofs.Checks.{Fit}
use Rattle.decimal.proofs.Fields.{Sound, field_sound, value_lt, remainder}
use Rattle.decimal.proofs.Pairs.{Lies, last_in}
use Rattle.decimal.proofs.Pass2.{Fits, Passing}
use Rattle.decimal.proofs.Stands.{Stands}
use Rattle.decimal.proofs.Whole.{decimal_lt}
use Rattle.apsp.specs.Program.{signed_words}
use Rattle.apsp.specs.Numbers.{field, signed_byte}
use Rattle.apsp.specs.Entry.{DONE}
use Rattle.apsp.proofs.Before.{readied}
use Rattle.apsp.proofs.Sums.{some, signing}
use Rattle.apsp.proofs.After.{ahead, signed_last, seals, again}
use Rattle.apsp.proofs.Amounts.{size_at, begun, after, pass_stands}
use Rattle.apsp.proofs.Sealed.{limit, limit_is, last_decimal, last_zero, size_stands, sealed, sealed_others}
use Rattle.apsp.proofs.Whole.{start_at, right, minus_at, difference_at, prepared, came, pass_leads, seals_by}

-- the result's size and sign, and the cycles that it takes: by whether it is a difference
abbrev pub true_size : Bool → ℕ → ℕ → ℕ
true_size p x y = cond p (cond (ltb x y) (y - x) (x - y)) (x + y)

abbrev pub true_minus : Bool → Bool → ℕ → ℕ → Bool
true_minus p minus x y = cond (p && ltb x y) (not minus) minus

abbrev pub true_count : Bool → ℕ → ℕ → ℕ → ℕ
true_count p x y m = cond (p && ltb x y) (23 * m + 48) (14 * m + 30)

-- so many cycles to the stop for done, where the first field holds a number of this size in this sign, as much of it as there is room for
pub record Ends (main local : List ℕ) (a m : ℕ) (from : Machine) (count size : ℕ) (minus : Bool) : Type 0 where
  pub left : List ℕ
  pub over : Bool
  pub reaches : Reaches whole signed_words local count from (ended DONE left over)
  pub told : over ≡ leb (10 ^ (2 * m + 1)) size
  pub result : field left a (suc m) ≡ signed_bytes (2 * m + 1) size (preferred (some size && minus))
  pub kept : length left ≡ length main
  pub others : (k : ℕ) → (k < a) ⊎ (a + suc m ≤ k) → get_or left k 0 ≡ get_or main k 0

some_ten : (v n : ℕ) → v ≡ 10 * n → some v ≡ some n
some_ten v n e = ap not (by (eqb n 0) refl)
  where
    by : (t : Bool) → eqb n 0 ≡ t → eqb v 0 ≡ t
    by true f = eq-eqb v 0 (omega (arith, e, eqb-true n 0 f))
    by false f = ne_eqb v 0 (λ z. eqb-false n 0 f (omega arith))

some_one : (n : ℕ) → 1 ≤ n → some n ≡ true
some_one n h = ap not (ne_eqb n 0 (λ z. omega arith))

-- 2m + 1 digits write less than that
size_below : (main : List ℕ) (a m : ℕ) → Sound main a m → high (get_or main (a + m) 0) ≤ 9 → size_at main a m < limit m
size_below main a m d h = omega (arith, value_lt main a m d)

-- what stands after a pass is below the limit, and ten times that is its value
module _ (less : Bool) (a m x y : ℕ) (main main' : List ℕ) (k : Bool) (st : Stands less a (suc m) main main' (10 * x) (10 * y) less k) where
  size_lt : size_at main' a m < limit m
  size_lt = size_below main' a m (λ i h. st.digits i (omega arith)) (last_decimal less a m x y main main' k st).0

  ten_times : value main' a (suc m) ≡ 10 * size_at main' a m
  unfolding value
  ten_times = omega (arith, last_zero less a m x y main main' k st)

  -- the end of a pass, with the sign
  pub ends_with : (local main₀ : List ℕ) (from : Machine) (count size : ℕ) (over minus sign : Bool) → a + suc m ≤ length main' → length main' ≡ length main₀
      → ((j : ℕ) → (j < a) ⊎ (a + suc m ≤ j) → get_or main' j 0 ≡ get_or main₀ j 0)
      → Reaches whole signed_words local count from (ended DONE (set main' (a + m) (signed_last (get_or main' (a + m) 0) sign)) over) → sign ≡ some size && minus → size_at main' a m + limit m * one over ≡ size
      → Ends main₀ local a m from count size minus
  ends_with local main₀ from count size over minus sign inside kept others reaches es ez =
      record {
        left = set main' (a + m) (signed_last (get_or main' (a + m) 0) sign);
        over = over;
        reaches = reaches;
        told = by over ez ∙ ap (λ (p : ℕ). leb p size) (limit_is m);
        result = sealed a m main' sign inside st.digits (last_zero less a m x y main main' k st) size (remainder (size_at main' a m) (limit m) size over size_lt ez)
            ∙ ap (λ (s : Bool). signed_bytes (2 * m + 1) size (preferred s)) es;
        kept = length-set main' (a + m) (signed_last (get_or main' (a + m) 0) sign) ∙ kept;
        others = λ j w. sealed_others a m main' sign inside st.digits (last_zero less a m x y main main' k st) j w ∙ others j w;
      }
    where
      by : (over : Bool) → size_at main' a m + limit m * one over ≡ size → over ≡ leb (limit m) size
      by true e = sym (le-leb (limit m) size (omega arith))
      by false e = sym (lt-leb (limit m) size (omega (arith, size_lt)))

-- ---- the four

-- a digit and a sign
digit_fine : (byte : ℕ) → signed_byte byte ≡ true → high byte ≤ 9
digit_fine byte g = leb-true (high byte) 9 (both (leb (high byte) 9) (not (is_none (sign_of (low byte)))) g).0

module _ (main local : List ℕ) (a b m : ℕ) (subtract : Bool) (f : Fit whole (length main) (length local) a b (suc m)) (byte-a : get_or main (a + m) 0 < 256) (byte-b : get_or main (b + m) 0 < 256)
    (da : decimal_field main a m ≡ true) (db : decimal_field main b m ≡ true) (gb : signed_byte (get_or main (b + m) 0) ≡ true) (ga : signed_byte (get_or main (a + m) 0) ≡ true) where
  abbrev from : Machine
  from = start_at main local a b subtract m

  abbrev x : ℕ
  x = size_at main a m

  abbrev y : ℕ
  y = size_at main b m

  abbrev minus : Bool
  minus = minus_at main a m

  -- the pass, of a sum or of a difference
  abbrev done : Bool → Passing
  done p = after local p true a b m false minus p main

  module _ (p : Bool) (ep : difference_at main a b m subtract ≡ p) where
    abbrev first_pass : Passing
    first_pass = begun local p true a b m false minus p main

    ready : Reaches whole signed_words local (5 * m + 15) from (at 0x0A main (view (a + suc m) (b + suc m) m (suc m) p (marked p false true minus true)))
    ready =
        subst (λ (p : Bool). Reaches whole signed_words local (5 * m + 15) from (at 0x0A main (view (a + suc m) (b + suc m) m (suc m) p (marked p false true minus true)))) ep
        (prepared main local a b m subtract f byte-a byte-b da db gb ga)

    byte_at : (i : ℕ) → i < suc m → (t : Bool) → eqb i m ≡ t → get_or main (b + i) 0 < 256
    byte_at i h true e = rw (eqb-true i m e) byte-b
    byte_at i h false e = decimal_lt (get_or main (b + i) 0) (field_sound main b m db i (omega (arith, eqb-false i m e)))

    fits : Fits (signing local) a b (suc m) first_pass
    fits = record { most = f.fits; in_a = f.in_a; in_b = f.in_b; clear = f.clear; bytes = λ i h. byte_at i h (eqb i m) refl }

    passed : Stands p a (suc m) main (done p).main (10 * x) (10 * y) p (done p).carry
    passed = pass_stands local p true a b m false minus p main fits (field_sound main a m da) (field_sound main b m db) (digit_fine (get_or main (a + m) 0) ga) (digit_fine (get_or main (b + m) 0) gb)

    lies : Lies whole (length (done p).main) a (suc m)
    lies = rw passed.size f.in_a

    inside : a + suc m ≤ length (done p).main
    inside = lies.in_main

    most : length (done p).main ≤ 65536
    most = rw passed.size f.fits

    in_last : In whole (length (done p).main) (a + m)
    in_last = last_in lies

    abbrev other : Bool
    other = came local main a b m p true false minus p

    module _ (k : Bool) (ek : (done p).carry ≡ k) where
      stands_k : Stands p a (suc m) main (done p).main (10 * x) (10 * y) p k
      stands_k = subst (λ (k : Bool). Stands p a (suc m) main (done p).main (10 * x) (10 * y) p k) ek passed

      other_is : (n : ℕ) → size_at (done p).main a m ≡ n → other ≡ some n
      other_is n e = some_ten (value (done p).main a (suc m)) n (ten_times p a m x y main (done p).main k stands_k ∙ ap (λ (v : ℕ). 10 * v) e)

      abbrev there : Place
      there = at (ahead p k other true) (done p).main (view (a + m) b m 0 k (marked p other false minus true))

      arrives : Reaches whole signed_words local (14 * m + 27) from there
      arrives =
          let e : 5 * m + 15 + (9 * m + 12) ≡ 14 * m + 27 = omega arith in
          told whole signed_words local e refl
          (on whole signed_words local (right main local a b subtract m f) ready (pass_leads local main a b m p true false minus p (omega (arith, f.few)) fits k ek))

      -- the sign follows
      ends_here : (size : ℕ) (over sign : Bool) → Block whole signed_words local 3 there (ended DONE (set (done p).main (a + m) (signed_last (get_or (done p).main (a + m) 0) sign)) over)
          → sign ≡ some size && minus → size_at (done p).main a m + limit m * one over ≡ size → Ends main local a m from (14 * m + 30) size minus
      ends_here size over sign seal es ez =
          let e : 14 * m + 27 + 3 ≡ 14 * m + 30 = omega arith in
          ends_with p a m x y main (done p).main k stands_k local main from (14 * m + 30) size over minus sign inside passed.size passed.others
          (told whole signed_words local e refl
          (on whole signed_words local (right main local a b subtract m f) arrives seal)) es ez

  -- a sum, and one that overflows
  sum_ends : (ep : difference_at main a b m subtract ≡ false) (k : Bool) → (done false).carry ≡ k → Ends main local a m from (14 * m + 30) (x + y) minus
  sum_ends ep false ek =
      let e : size_at (done false).main a m ≡ x + y = omega (arith, size_stands false a m x y main (done false).main false (stands_k false ep false ek)) in
      ends_here false ep false ek (x + y) false (other false ep && minus)
      (seals_by local (done false).main (most false ep) (a + m) b m 0 false false false true minus (in_last false ep) (other false ep))
      (ap (λ (z : Bool). z && minus) (other_is false ep false ek (x + y) e)) (omega (arith, e))
  sum_ends ep true ek =
      let e : size_at (done false).main a m + limit m ≡ x + y = omega (arith, size_stands false a m x y main (done false).main true (stands_k false ep true ek)) in
      ends_here false ep true ek (x + y) true minus
      (seals local (done false).main (most false ep) (a + m) b m 0 true false (other false ep) false true (in_last false ep) true minus)
      (ap (λ (z : Bool). z && minus) (sym (some_one (x + y) (omega (arith, e, one-le-pow m 100 (lit< tt)))))) (omega (arith, e))

  -- a difference that is not below 0
  difference_ends : (ep : difference_at main a b m subtract ≡ true) → (done true).carry ≡ true → (y ≤ x) × Ends main local a m from (14 * m + 30) (x - y) minus
  difference_ends ep ek =
      let e : size_at (done true).main a m + y ≡ x = omega (arith, size_stands true a m x y main (done true).main true (stands_k true ep true ek)) in
      let s : size_at (done true).main a m ≡ x - y = omega arith in (
        omega arith,
        ends_here true ep true ek (x - y) false (other true ep && minus)
            (seals_by local (done true).main (most true ep) (a + m) b m 0 true true false true minus (in_last true ep) (other true ep))
            (ap (λ (z : Bool). z && minus) (other_is true ep true ek (x - y) s)) (omega arith),
      )

  -- one that is, complemented again
  module _ (ep : difference_at main a b m subtract ≡ true) (ek : (done true).carry ≡ false) where
    abbrev main₂ : List ℕ
    main₂ = (done true).main

    abbrev size₂ : ℕ
    size₂ = size_at main₂ a m

    abbrev before : Passing
    before = begun local true false a a m (other true ep) (not minus) true main₂

    abbrev third : Passing
    third = after local true false a a m (other true ep) (not minus) true main₂

    fits_again : Fits (signing local) a a (suc m) before
    fits_again =
        record {
          most = most true ep;
          in_a = lies true ep;
          in_b = lies true ep;
          clear = λ i j h k e. omega arith;
          bytes = λ i h. decimal_lt (get_or main₂ (a + i) 0) ((passed true ep).digits i h);
        }

    passed_again : Stands true a (suc m) main₂ third.main 0 (10 * size₂) true third.carry
    passed_again =
        let h = (last_decimal true a m x y main main₂ (done true).carry (passed true ep)).0 in
        pass_stands local true false a a m (other true ep) (not minus) true main₂ fits_again (λ i k. (passed true ep).digits i (omega arith)) (λ i k. (passed true ep).digits i (omega arith)) h h

    -- there is something to complement, so no carry comes out
    sizes : (x < y) × (third.carry ≡ false) × (size_at third.main a m ≡ y - x)
    sizes =
        let e : size₂ + y ≡ x + limit m = omega (arith, size_stands true a m x y main main₂ false (stands_k true ep false ek)) in
        let h = size_lt true a m x y main main₂ (done true).carry (passed true ep) in
        let less : y < limit m = size_below main b m (field_sound main b m db) (digit_fine (get_or main (b + m) 0) gb) in
        by third.carry refl (size_stands true a m 0 size₂ main₂ third.main third.carry passed_again) e h less
      where
        by : (k : Bool) → third.carry ≡ k → size_at third.main a m + limit m * one k + size₂ ≡ 0 + limit m → size₂ + y ≡ x + limit m → size₂ < limit m → y < limit m
            → (x < y) × (third.carry ≡ false) × (size_at third.main a m ≡ y - x)
        by true ek e f h less = absurd (omega arith)
        by false ek e f h less = (omega arith, ek, omega arith)

    goes_again : Reaches whole signed_words local (23 * m + 48) from (ended DONE (set third.main (a + m) (signed_last (get_or third.main (a + m) 0) (not minus))) false)
    goes_again =
        let e : 14 * m + 27 + (5 + (1 + (9 * m + 12 + 3))) ≡ 23 * m + 48 = omega arith in
        let ea : a + m + 1 ≡ a + suc m = omega arith in
        let same_size = passed_again.size in
        let z : Bool = came local main₂ a a m true false (other true ep) (not minus) true in
        told whole signed_words local e refl
        (on whole signed_words local (right main local a b subtract m f) (arrives true ep false ek)
        (then whole signed_words local (again local main₂ (a + m) b m 0 false true (other true ep) false true (omega (arith, f.few)) minus)
        (then whole signed_words local
        (said whole signed_words local refl (λ i. at 0x0A main₂ (view (ea i) (ea i) m (suc m) true (marked true (other true ep) true (not minus) false)))
        (readied local main₂ (most true ep) (a + m + 1) (a + m + 1) m (suc m) false (marked true (other true ep) false (not minus) false)))
        (then whole signed_words local (pass_leads local main₂ a a m true false (other true ep) (not minus) true (omega (arith, f.few)) fits_again false sizes.1)
        (seals local third.main (rw same_size (most true ep)) (a + m) a m 0 false true z false false (rw same_size (in_last true ep)) false (not minus))))))

    again_ends : (x < y) × Ends main local a m from (23 * m + 48) (y - x) (not minus)
    again_ends =
        let (less, none, is) = sizes in (
          less,
          ends_with true a m 0 size₂ main₂ third.main third.carry passed_again local main from (23 * m + 48) (y - x) false (not minus) (not minus) (rw passed_again.size (inside true ep))
              (passed_again.size ∙ (passed true ep).size) (λ j w. passed_again.others j w ∙ (passed true ep).others j w) goes_again
              (ap (λ (z : Bool). z && not minus) (sym (some_one (y - x) (omega arith)))) (omega (arith, is)),
        )

  -- whichever it is
  pub ends : (p : Bool) → difference_at main a b m subtract ≡ p → Ends main local a m from (true_count p x y m) (true_size p x y) (true_minus p minus x y)
  ends false ep = sum_ends ep (done false).carry refl
  ends true ep = by (done true).carry refl
    where
      by : (k : Bool) → (done true).carry ≡ k → Ends main local a m from (true_count true x y m) (true_size true x y) (true_minus true minus x y)
      by true ek = let (h, e) = difference_ends ep ek in rw (le-ltb x y h) e
      by false ek = let (h, e) = again_ends ep ek in rw (lt-ltb x y h) e
