-- The words of AP and SP from start to stop. Assumes nothing.
use Prim.Native.Nat.{ℕ, zero, suc, ◌+◌, ◌*◌, ◌<◌, ◌≤◌}
use mathlib.Core.Path.{◌≡◌, refl, sym, subst}
use mathlib.Core.List.{List}
use mathlib.Core.Bool.{Bool, true, false, cond, ◌&&◌, ◌||◌}
use native.Mathlib.Omega.{arith}
use native.Mathlib.Nat.{add-zero}
use lib.Dec.{eqb}
use lib.ListN.{length, get_or, set}
use Rattle.digits.specs.Digits.{low}
use Rattle.digits.specs.Packed.{sign_of, is_minus}
use Rattle.digits.proofs.Truth.{zero_one}
use Rattle.storage.specs.Storage.{whole}
use Rattle.storage.proofs.Inside.{In}
use Rattle.run.proofs.Goes.{Machine, machine, Right}
use Rattle.decimal.specs.Value.{value, decimal_field}
use Rattle.decimal.specs.Promise.{until_bad}
use Rattle.decimal.proofs.Places.{branch, fork, Marks, marked, view, at, at_with, in_r, ended, Reaches, Block, Refuses, on, then, told, said, on_refuses}
use Rattle.decimal.proofs.Checks.{Fit}
use Rattle.decimal.proofs.Pairs.{last_in, front_lies, some_left}
use Rattle.decimal.proofs.Pass1.{good, bad}
use Rattle.decimal.proofs.Pass2.{Fits, Passing, all}
use Rattle.apsp.specs.Program.{signed_words}
use Rattle.apsp.specs.Numbers.{signed_byte}
use Rattle.apsp.specs.Entry.{signed_start, DONE}
use Rattle.apsp.specs.Promise.{turned_by}
use Rattle.apsp.proofs.Own.{tests}
use Rattle.apsp.proofs.Before.{begins, second_read, first_read, readied}
use Rattle.apsp.proofs.Sign.{turned_marks, good_sign, bad_sign}
use Rattle.apsp.proofs.Sums.{some, signing}
use Rattle.apsp.proofs.After.{ahead, three, signed_last, seals_zero, seals}
use Rattle.apsp.proofs.Amounts.{begun, after, pass_marks}

-- ---- the first pass, over the m bytes before the last

module _ (main local : List ℕ) (a b : ℕ) (subtract : Bool) where
  abbrev pub start_at : ℕ → Machine
  start_at m = machine (signed_start a b (suc m) subtract) main local

  abbrev m₀ : Marks
  m₀ = marked subtract false false false false

  abbrev Ready : ℕ → Type 0
  Ready m = Fit whole (length main) (length local) a b (suc m)

  pub right : (m : ℕ) → Ready m → Right signed_words (start_at m)
  unfolding signed_words
  right m f = f.sizes

  begun_at : (m : ℕ) → Ready m → (none : Bool) → eqb m 0 ≡ none → Reaches whole signed_words local 2 (start_at m) (at (branch 0x02 none) main (view a b m m false m₀))
  begun_at m f = begins local main a b m subtract (right m f) (omega (arith, f.in_a.in_main, f.fits)) (omega (arith, f.in_b.in_main, f.fits)) (omega (arith, f.few))

  tested : (m : ℕ) → Ready m → decimal_field main a m ≡ true → decimal_field main b m ≡ true → Reaches whole signed_words local (5 * m + 2) (start_at m) (at 0x03 main (view (a + m) (b + m) m 0 false m₀))
  tested zero f da db =
      told whole signed_words local refl (λ i. at 0x03 main (view (sym (add-zero a) i) (sym (add-zero b) i) 0 0 false m₀)) (begun_at 0 f true refl)
  tested (suc k) f da db =
      let e : 2 + suc k * 5 ≡ 5 * suc k + 2 = omega arith in
      told whole signed_words local e refl
      (on whole signed_words local (right (suc k) f) (begun_at (suc k) f false (some_left k))
      (good whole signed_words local tests main f.fits (suc k) false m₀ k a b (omega (arith, f.few)) (front_lies f.in_a) (front_lies f.in_b) db da))

  pub first_bad : (m : ℕ) → Ready m → decimal_field main a m && decimal_field main b m ≡ false → Refuses whole signed_words local DONE (2 + until_bad main a b m) (start_at m) main
  first_bad zero f d = absurd (zero_one cc)
  first_bad (suc k) f d =
      on_refuses whole signed_words local (right (suc k) f) (begun_at (suc k) f false (some_left k))
      (bad whole signed_words local tests main f.fits (suc k) false m₀ DONE refl refl k a b (omega (arith, f.few)) (front_lies f.in_a) (front_lies f.in_b) d)

-- ---- the last bytes and their signs

abbrev pub minus_at : List ℕ → ℕ → ℕ → Bool
minus_at main a m = is_minus (sign_of (low (get_or main (a + m) 0)))

abbrev pub difference_at : List ℕ → ℕ → ℕ → ℕ → Bool → Bool
difference_at main a b m subtract = turned_by (minus_at main a m) (turned_by (minus_at main b m) subtract)

as_is : (b : Bool) → cond b true false ≡ b
as_is true = refl
as_is false = refl

module _ (main local : List ℕ) (a b m : ℕ) (subtract : Bool) (f : Fit whole (length main) (length local) a b (suc m)) (byte-a : get_or main (a + m) 0 < 256) (byte-b : get_or main (b + m) 0 < 256)
    (da : decimal_field main a m ≡ true) (db : decimal_field main b m ≡ true) where
  abbrev from : Machine
  from = start_at main local a b subtract m

  abbrev here : Right signed_words from
  here = right main local a b subtract m f

  to_second : Reaches whole signed_words local (5 * m + 2 + 2) from (at_with 0x15 main (view (a + m) (b + m + 1) m 0 false (m₀ main local a b subtract)) (in_r (get_or main (b + m) 0)))
  to_second = on whole signed_words local here (tested main local a b subtract m f da db) (second_read local main f.fits (a + m) (b + m) m 0 false (m₀ main local a b subtract) (last_in f.in_b))

  pub second_bad : signed_byte (get_or main (b + m) 0) ≡ false → Refuses whole signed_words local DONE (5 * m + 6) from main
  second_bad d =
      let e : 5 * m + 2 + 2 + 2 ≡ 5 * m + 6 = omega arith in
      subst (λ (n : ℕ). Refuses whole signed_words local DONE n from main) e
      (on_refuses whole signed_words local here to_second (bad_sign local main (a + m) (b + m + 1) m 0 false (m₀ main local a b subtract) (get_or main (b + m) 0) byte-b d))

  module _ (gb : signed_byte (get_or main (b + m) 0) ≡ true) where
    -- what the second sign makes of S, and then 20 and 17
    abbrev m₁ : Marks
    m₁ = marked (turned_by (minus_at main b m) subtract) false false false true

    to_first : Reaches whole signed_words local (5 * m + 2 + 2 + (4 + 2)) from (at_with 0x15 main (view (a + m + 1) (b + m + 1) m (suc m) false m₁) (in_r (get_or main (a + m) 0)))
    to_first =
        on whole signed_words local here to_second
        (then whole signed_words local (good_sign local main (a + m) (b + m + 1) m 0 false (m₀ main local a b subtract) (get_or main (b + m) 0) byte-b (omega (arith, f.few)) gb)
        (first_read local main f.fits (a + m) (b + m + 1) m (suc m) false (turned_marks (minus_at main b m) (m₀ main local a b subtract)) (last_in f.in_a)))

    pub first_bad_sign : signed_byte (get_or main (a + m) 0) ≡ false → Refuses whole signed_words local DONE (5 * m + 12) from main
    first_bad_sign d =
        let e : 5 * m + 2 + 2 + (4 + 2) + 2 ≡ 5 * m + 12 = omega arith in
        subst (λ (n : ℕ). Refuses whole signed_words local DONE n from main) e
        (on_refuses whole signed_words local here to_first (bad_sign local main (a + m + 1) (b + m + 1) m (suc m) false m₁ (get_or main (a + m) 0) byte-a d))

    module _ (ga : signed_byte (get_or main (a + m) 0) ≡ true) where
      abbrev difference : Bool
      difference = difference_at main a b m subtract

      -- ready to sum
      pub prepared : Reaches whole signed_words local (5 * m + 15) from (at 0x0A main (view (a + suc m) (b + suc m) m (suc m) difference (marked difference false true (minus_at main a m) true)))
      prepared =
          let e : 5 * m + 2 + 2 + (4 + 2) + (4 + 1) ≡ 5 * m + 15 = omega arith in
          let ea : a + m + 1 ≡ a + suc m = omega arith in
          let eb : b + m + 1 ≡ b + suc m = omega arith in
          told whole signed_words local e (λ i. at 0x0A main (view (ea i) (eb i) m (suc m) difference (marked difference false true (as_is (minus_at main a m) i) true)))
          (on whole signed_words local here to_first
          (then whole signed_words local (good_sign local main (a + m + 1) (b + m + 1) m (suc m) false m₁ (get_or main (a + m) 0) byte-a (omega (arith, f.few)) ga)
          (readied local main f.fits (a + m + 1) (b + m + 1) m (suc m) false (turned_marks (minus_at main a m) m₁))))

-- ---- a pass that sums, and where it leads

module _ (local main : List ℕ) (a b m : ℕ) (less first z minus c : Bool) where
  abbrev end : Passing
  end = after local less first a b m z minus c main

  -- whether a byte came out other than 0
  abbrev pub came : Bool
  came = z || some (value end.main a (suc m))

  pub pass_leads : m < 255 → Fits (signing local) a b (suc m) (begun local less first a b m z minus c main) → (k : Bool) → end.carry ≡ k
      → Block whole signed_words local (9 * m + 12) (at 0x0A main (view (a + suc m) (b + suc m) m (suc m) c (marked less z true minus first)))
      (at (ahead less k came first) end.main (view (a + m) b m 0 k (marked less came false minus first)))
  pass_leads small f k e =
      let n : suc m * 9 + 3 ≡ 9 * m + 12 = omega arith in
      said whole signed_words local n (λ i. at (ahead less (e i) came first) end.main (view (a + m) b m 0 (e i) (marked less came false minus first)))
      (then whole signed_words local
      (said whole signed_words local refl (λ i. at 0x0B end.main (view a b m 0 end.carry (pass_marks local a b m (begun local less first a b m z minus c main) f.in_a.in_main i)))
      (all (signing local) a b m m (begun local less first a b m z minus c main) small f))
      (three local end.main a b m 0 came false minus first (omega arith) less end.carry))

-- zero is plus, any other number has its sign
module _ (local main : List ℕ) (fits : length main ≤ 65536) (a b l t : ℕ) (c p last first minus : Bool) (ha : In whole (length main) a) where
  pub seals_by : (z : Bool) → Block whole signed_words local 3 (at (fork 0x2C z false) main (view a b l t c (marked p z last minus first))) (ended DONE (set main a (signed_last (get_or main a 0) (z && minus))) false)
  seals_by true = seals local main fits a b l t c p true last first ha false minus
  seals_by false = seals_zero local main fits a b l t c p false last first ha minus
