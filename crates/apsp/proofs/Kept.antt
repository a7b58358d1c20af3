-- The entry of AP and SP keeps its promise. Assumes nothing.
use Prim.Native.Nat.{ℕ, zero, suc, ◌+◌, ◌-◌, ◌*◌, ◌^◌, ◌<◌, ◌≤◌}
use mathlib.Core.Path.{◌≡◌, refl, sym, ap, subst, ◌∙◌}
use mathlib.Core.List.{List}
use mathlib.Core.Bool.{Bool, true, false, cond, not, ◌&&◌}
use native.Mathlib.Omega.{arith}
use lib.Dec.{ltb, leb}
use lib.IntN.{nat_abs, ◌+ℤ◌, ◌-ℤ◌}
use lib.ListN.{length, get_or}
use Rattle.digits.specs.Digits.{low}
use Rattle.digits.specs.Packed.{sign_of, is_minus, preferred, signed, below_zero, size_in, sign_in, signed_bytes}
use Rattle.digits.proofs.Packed.{size_signed, below_signed}
use Rattle.digits.proofs.Truth.{true_not_false, both}
use Rattle.storage.specs.Storage.{whole}
use Rattle.machine.specs.Cycle.{Outcome, outcome}
use Rattle.decimal.specs.Value.{decimal_field}
use Rattle.decimal.specs.Entry.{add_checks, bound}
use Rattle.decimal.specs.Promise.{until_bad, Bad}
use Rattle.decimal.specs.declared.Added.{Added}
use Rattle.decimal.specs.declared.Added.TheVariants.{Summed}
use Rattle.decimal.proofs.Places.{ended, Refuses}
use Rattle.decimal.proofs.Checks.{Fit, no_bytes, accepted}
use Rattle.decimal.proofs.Whole.{until_le}
use Rattle.decimal.proofs.Kept.{Finishes, comes_to, stops_short, keeps}
use Rattle.apsp.specs.Program.{signed_words}
use Rattle.apsp.specs.Numbers.{places, field, number, last_byte, signed_byte, good_field, exact}
use Rattle.apsp.specs.Entry.{signed_start, signed_run, DONE, signed_of}
use Rattle.apsp.specs.Promise.{turned_by, signed_cycles, SignedSums, until_bad_signed, SignedPromise}
use Rattle.apsp.proofs.Sums.{some}
use Rattle.apsp.proofs.After.{stop_33}
use Rattle.apsp.proofs.Amounts.{size_at}
use Rattle.apsp.proofs.Numbers.{size_is, sign_is, as_sum, sum_exact, difference_exact}
use Rattle.apsp.proofs.Whole.{start_at, right, minus_at, difference_at, first_bad, second_bad, first_bad_sign}
use Rattle.apsp.proofs.Result.{Ends, true_size, true_minus, true_count, ends}

-- ---- what the promise says of fields of m + 1 bytes

but_one : (m : ℕ) → suc m - 1 ≡ m
but_one m = omega arith

digits_are : (m : ℕ) → places (suc m) ≡ 2 * m + 1
digits_are m = omega arith

module _ (main : List ℕ) (a m : ℕ) where
  good_is : good_field main a (suc m) ≡ decimal_field main a m && signed_byte (get_or main (a + m) 0)
  good_is = λ i. decimal_field main a (but_one m i) && signed_byte (get_or main (a + but_one m i) 0)

  minus_is : is_minus (sign_of (low (last_byte main a (suc m)))) ≡ minus_at main a m
  minus_is = λ i. is_minus (sign_of (low (get_or main (a + but_one m i) 0)))

  module _ (h : a + suc m ≤ length main) where
    its_size : size_in (places (suc m)) (field main a (suc m)) ≡ size_at main a m
    its_size = ap (λ (k : ℕ). size_in k (field main a (suc m))) (digits_are m) ∙ size_is main a m h

    number_is : number main a (suc m) ≡ signed (minus_at main a m) (size_at main a m)
    number_is = (λ i. signed (is_minus (sign_of ((ap (λ (k : ℕ). sign_in k (field main a (suc m))) (digits_are m) ∙ sign_is main a m h) i))) (its_size i))

module _ (main : List ℕ) (a b m : ℕ) (subtract : Bool) (ha : a + suc m ≤ length main) (hb : b + suc m ≤ length main) where
  abbrev x : ℕ
  x = size_at main a m

  abbrev y : ℕ
  y = size_at main b m

  exact_is : exact main a b (suc m) subtract ≡ signed (minus_at main a m) x +ℤ signed (turned_by (minus_at main b m) subtract) y
  exact_is =
      (λ i. cond subtract (number_is main a m ha i -ℤ number_is main b m hb i) (number_is main a m ha i +ℤ number_is main b m hb i))
      ∙ as_sum (signed (minus_at main a m) x) y (minus_at main b m) subtract

  cycles_are : signed_cycles main a b (suc m) subtract ≡ cond (difference_at main a b m subtract && ltb x y) (23 * suc m + 25) (14 * suc m + 16)
  cycles_are = λ i. cond (turned_by (minus_is main a m i) (turned_by (minus_is main b m i) subtract) && ltb (its_size main a m ha i) (its_size main b m hb i)) (23 * suc m + 25) (14 * suc m + 16)

-- ---- done

module _ (main local : List ℕ) (a b m : ℕ) (subtract : Bool) (f : Fit whole (length main) (length local) a b (suc m)) where
  -- an ending whose size and sign are the exact result's
  ends_so : (count size : ℕ) (minus : Bool) → count < bound (suc m) → exact main a b (suc m) subtract ≡ signed minus size → signed_cycles main a b (suc m) subtract ≡ count
      → Ends main local a m (start_at main local a b subtract m) count size minus → Finishes DONE (signed_run main local a b (suc m) subtract) (suc m) (SignedSums main local a b (suc m) subtract)
  ends_so count size minus less ex ec e =
      let abs : size ≡ nat_abs (exact main a b (suc m) subtract) = sym (ap nat_abs ex ∙ size_signed minus size) in
      let below : some size && minus ≡ below_zero (exact main a b (suc m) subtract) = sym (ap below_zero ex ∙ below_signed minus size) in
      comes_to whole signed_words main local (signed_start a b (suc m) subtract) (suc m) DONE count (right main local a b subtract m f) f.few less (ended DONE e.left e.over) refl e.reaches (stop_33 local e.left)
      (SignedSums main local a b (suc m) subtract)
      (λ x on.
      record {
        done = λ i. Summed ((on ∙ e.told ∙ (λ j. leb (10 ^ sym (digits_are m) j) (abs j))) i) (sym ec i);
        result = e.result ∙ (λ i. signed_bytes (sym (digits_are m) i) (abs i) (preferred (below i)));
        size = e.kept;
        others = e.others;
        local_kept = refl;
      })

  -- the exact result, by whether it is a difference
  true_exact : (p : Bool) → difference_at main a b m subtract ≡ p → let x = size_at main a m in let y = size_at main b m in
      exact main a b (suc m) subtract ≡ signed (true_minus p (minus_at main a m) x y) (true_size p x y)
  true_exact false e = exact_is main a b m subtract f.in_a.in_main f.in_b.in_main ∙ sum_exact (size_at main a m) (size_at main b m) (minus_at main a m) (turned_by (minus_at main b m) subtract) e
  true_exact true e =
      exact_is main a b m subtract f.in_a.in_main f.in_b.in_main ∙ difference_exact (size_at main a m) (size_at main b m) (minus_at main a m) (turned_by (minus_at main b m) subtract) e ∙ by (ltb (size_at main a m) (size_at main b m))
    where
      by : (t : Bool) → let x = size_at main a m in let y = size_at main b m in let minus = minus_at main a m in
          cond t (signed (not minus) (y - x)) (signed minus (x - y)) ≡ signed (cond t (not minus) minus) (cond t (y - x) (x - y))
      by true = refl
      by false = refl

  true_cycles : (p : Bool) → difference_at main a b m subtract ≡ p → signed_cycles main a b (suc m) subtract ≡ true_count p (size_at main a m) (size_at main b m) m
  true_cycles p e =
      let again : 23 * suc m + 25 ≡ 23 * m + 48 = omega arith in
      let once : 14 * suc m + 16 ≡ 14 * m + 30 = omega arith in
      cycles_are main a b m subtract f.in_a.in_main f.in_b.in_main ∙ (λ i. cond (e i && ltb (size_at main a m) (size_at main b m)) (again i) (once i))

  count_few : (t : Bool) → cond t (23 * m + 48) (14 * m + 30) < bound (suc m)
  count_few true = omega arith
  count_few false = omega arith

  module _ (bytes : (i : ℕ) → get_or main i 0 < 256) where
    sums_end : good_field main a (suc m) && good_field main b (suc m) ≡ true → Finishes DONE (signed_run main local a b (suc m) subtract) (suc m) (SignedSums main local a b (suc m) subtract)
    sums_end g =
        let (ga, gb) = both (good_field main a (suc m)) (good_field main b (suc m)) g in
        let (da, sa) = both (decimal_field main a m) (signed_byte (get_or main (a + m) 0)) (sym (good_is main a m) ∙ ga) in
        let (db, sb) = both (decimal_field main b m) (signed_byte (get_or main (b + m) 0)) (sym (good_is main b m) ∙ gb) in
        let p : Bool = difference_at main a b m subtract in
        let x : ℕ = size_at main a m in
        let y : ℕ = size_at main b m in
        ends_so (true_count p x y m) (true_size p x y) (true_minus p (minus_at main a m) x y) (count_few (p && ltb x y)) (true_exact p refl) (true_cycles p refl)
        (ends main local a b m subtract f (bytes (a + m)) (bytes (b + m)) da db sb sa p refl)

    -- ---- a digit or a sign is bad

    until_is : until_bad_signed main a b (suc m)
        ≡ cond (decimal_field main a m && decimal_field main b m) (cond (signed_byte (get_or main (b + m) 0)) (5 * m + 12) (5 * m + 6)) (2 + until_bad main a b m)
    until_is =
        let last : 5 * suc m + 7 ≡ 5 * m + 12 = omega arith in
        let first : 5 * suc m + 1 ≡ 5 * m + 6 = omega arith in
        λ i. cond (decimal_field main a (but_one m i) && decimal_field main b (but_one m i)) (cond (signed_byte (get_or main (b + but_one m i) 0)) (last i) (first i)) (2 + until_bad main a b (but_one m i))

    refusing : good_field main a (suc m) && good_field main b (suc m) ≡ false → Refuses whole signed_words local DONE (until_bad_signed main a b (suc m)) (start_at main local a b subtract m) main
    refusing g =
        subst (λ (n : ℕ). Refuses whole signed_words local DONE n (start_at main local a b subtract m) main) (sym until_is)
        (by (decimal_field main a m) (decimal_field main b m) (signed_byte (get_or main (a + m) 0)) (signed_byte (get_or main (b + m) 0)) refl refl refl refl (sym (λ i. good_is main a m i && good_is main b m i) ∙ g))
      where
        by : (p q r t : Bool) → decimal_field main a m ≡ p → decimal_field main b m ≡ q → signed_byte (get_or main (a + m) 0) ≡ r → signed_byte (get_or main (b + m) 0) ≡ t → (p && r) && (q && t) ≡ false
            → Refuses whole signed_words local DONE (cond (p && q) (cond t (5 * m + 12) (5 * m + 6)) (2 + until_bad main a b m)) (start_at main local a b subtract m) main
        by true true r false e h k l g = second_bad main local a b m subtract f (bytes (a + m)) (bytes (b + m)) e h l
        by true true false true e h k l g = first_bad_sign main local a b m subtract f (bytes (a + m)) (bytes (b + m)) e h l k
        by true true true true e h k l g = absurd (true_not_false refl g)
        by false q r t e h k l g = first_bad main local a b subtract m f (λ i. e i && decimal_field main b m)
        by true false r t e h k l g = first_bad main local a b subtract m f (λ i. e i && h i)

    bad_few : until_bad_signed main a b (suc m) < bound (suc m)
    bad_few = rw until_is (by (decimal_field main a m && decimal_field main b m) (signed_byte (get_or main (b + m) 0)))
      where
        by : (p q : Bool) → cond p (cond q (5 * m + 12) (5 * m + 6)) (2 + until_bad main a b m) < bound (suc m)
        by true true = omega arith
        by true false = omega arith
        by false q = omega (arith, until_le main m a b)

    bad_end : good_field main a (suc m) && good_field main b (suc m) ≡ false → Finishes DONE (signed_run main local a b (suc m) subtract) (suc m) (Bad (until_bad_signed main a b (suc m)) main local)
    bad_end g =
        stops_short whole signed_words main local (signed_start a b (suc m) subtract) (suc m) DONE (until_bad_signed main a b (suc m)) (right main local a b subtract m f) f.few bad_few (refusing g)

-- ---- the entry

pub signed_kept : (main local : List ℕ) (a b n : ℕ) (subtract : Bool) → ((i : ℕ) → get_or main i 0 < 256)
    → let o = signed_of main local a b n subtract in SignedPromise main local a b n subtract o.answer o.main o.local
unfolding signed_of
signed_kept main local a b zero subtract bytes =
    keeps DONE (add_checks whole (length main) (length local) a b 0) (signed_run main local a b 0 subtract) main local 0 (good_field main a 0 && good_field main b 0) (SignedSums main local a b 0 subtract)
    (Bad (until_bad_signed main a b 0) main local)
    (λ e g. absurd (no_bytes (accepted whole (length main) (length local) a b 0 e))) (λ e g. absurd (no_bytes (accepted whole (length main) (length local) a b 0 e)))
signed_kept main local a b (suc m) subtract bytes =
    keeps DONE (add_checks whole (length main) (length local) a b (suc m)) (signed_run main local a b (suc m) subtract) main local (suc m) (good_field main a (suc m) && good_field main b (suc m))
    (SignedSums main local a b (suc m) subtract) (Bad (until_bad_signed main a b (suc m)) main local)
    (λ e. sums_end main local a b m subtract (accepted whole (length main) (length local) a b (suc m) e) bytes) (λ e. bad_end main local a b m subtract (accepted whole (length main) (length local) a b (suc m) e) bytes)

pub with_promise : (main local : List ℕ) (a b n : ℕ) (subtract : Bool) → ((i : ℕ) → get_or main i 0 < 256) → (r : Added) (m l : List ℕ) → outcome r m l ≡ signed_of main local a b n subtract
    → (outcome r m l ≡ signed_of main local a b n subtract) × SignedPromise main local a b n subtract r m l
with_promise main local a b n subtract bytes r m l e =
    (e, subst (λ (o : Outcome Added). SignedPromise main local a b n subtract o.answer o.main o.local) (sym e) (signed_kept main local a b n subtract bytes))
