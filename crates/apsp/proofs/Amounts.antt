-- What a pass of AP and SP comes to: the sizes of the fields, ten times; and whether that is 0. Assumes nothing.
use Prim.Native.Nat.{ℕ, zero, suc, ◌+◌, ◌*◌, ◌/◌, ◌%◌, ◌<◌, ◌≤◌}
use mathlib.Core.Path.{◌≡◌, refl, sym, ap, subst, ◌∙◌}
use mathlib.Core.List.{List}
use mathlib.Core.Bool.{Bool, true, false, cond, not, ◌||◌}
use native.Mathlib.Omega.{arith}
use borrow.Author.Tests.{le-leb, eq-eqb, ne_eqb, eqb-true, eqb-false}
use lib.Dec.{eqb}
use lib.ListN.{length, get_or, length-set}
use lib.Seq.{get_or-set_same}
use Rattle.digits.specs.Digits.{high, both_decimal, val}
use Rattle.decimal.specs.Value.{value}
use Rattle.decimal.proofs.Places.{Marks, marked}
use Rattle.decimal.proofs.Pass2.{Passing, passing, Fits, fits_on, onward, summed, pass, pass_others}
use Rattle.decimal.proofs.Fields.{Sound}
use Rattle.decimal.proofs.Stands.{Stands, sound_a, sound_b, stands_on, stands}
use Rattle.apsp.proofs.Sums.{some, signing}

-- the number of a field of m + 1 bytes, its sign left out
abbrev pub size_at : List ℕ → ℕ → ℕ → ℕ
size_at main a m = value main a m * 10 + high (get_or main (a + m) 0)

high_decimal : (x : ℕ) → high x ≤ 9 → both_decimal (high x * 16) ≡ true
high_decimal x h = rw (le-leb (high x * 16 / 16) 9 (omega arith), le-leb (high x * 16 % 16) 9 (omega arith))

high_value : (h : ℕ) → val (h * 16) ≡ 10 * h
high_value h = omega arith

-- ---- a pass: bytes whole, of the last the high digit

module _ (local : List ℕ) (less first : Bool) (a b m : ℕ) (z minus c : Bool) (main : List ℕ) where
  abbrev pub begun : Passing
  begun = passing main c (marked less z true minus first)

  abbrev pub after : Passing
  after = pass (signing local) a b (suc m) begun

  module _ (f : Fits (signing local) a b (suc m) begun) (da : Sound main a m) (db : Sound main b m) (ha : high (get_or main (a + m) 0) ≤ 9) (hb : high (get_or main (b + m) 0) ≤ 9) where
    abbrev x : ℕ
    x = get_or main (a + m) 0

    abbrev y : ℕ
    y = get_or main (b + m) 0

    gated : (first : Bool) → both_decimal (cond first (high x * 16) 0) ≡ true
    gated true = high_decimal x ha
    gated false = refl

    worth : (first : Bool) → cond first (value main a m) 0 * 100 + val (cond first (high x * 16) 0) ≡ cond first (10 * size_at main a m) 0
    worth true = omega (arith, high_value (high x))
    worth false = refl

    pub pass_stands : Stands less a (suc m) main after.main (cond first (10 * size_at main a m) 0) (10 * size_at main b m) c after.carry
    unfolding pass signing
    pass_stands =
        let t : Passing = onward (signing local) a b m begun in
        let wy : value main b m * 100 + val (high y * 16) ≡ 10 * size_at main b m = omega (arith, high_value (high y)) in
        subst (λ (v : ℕ). Stands less a (suc m) main after.main (cond first (10 * size_at main a m) 0) v c after.carry) wy
        (subst (λ (v : ℕ). Stands less a (suc m) main after.main v (value main b m * 100 + val (high y * 16)) c after.carry) (worth first)
        (stands_on (signing local) a b m begun f less first (cond first (high x * 16) 0) (high y * 16) refl (gated first) (high_decimal y hb) after.main after.carry
        (stands (signing local) less first (λ (k : Marks). (k.s0 ≡ less) × (k.s4 ≡ false) × (k.s7 ≡ first)) (λ k g u v d. rw (g.0, g.1, g.2)) (λ k u g. (g.0, refl, g.2)) a b
        m t (refl, refl, refl) (fits_on (signing local) a b m begun f) (sound_a (signing local) a b m begun f da) (sound_b (signing local) a b m begun f db))))

-- ---- whether any byte came out other than 0

some_more : (z : Bool) (r v : ℕ) → (z || some r) || some v ≡ z || some (v * 100 + val r)
some_more true r v = refl
some_more false r v = by (eqb r 0) (eqb v 0) refl refl
  where
    by : (p q : Bool) → eqb r 0 ≡ p → eqb v 0 ≡ q → not p || not q ≡ some (v * 100 + val r)
    by true true e f = ap not (sym (eq-eqb (v * 100 + val r) 0 (omega (arith, eqb-true r 0 e, eqb-true v 0 f))))
    by true false e f = ap not (sym (ne_eqb (v * 100 + val r) 0 (λ x. eqb-false v 0 f (omega arith))))
    by false q e f = ap not (sym (ne_eqb (v * 100 + val r) 0 (λ x. eqb-false r 0 e (omega arith))))

or_none : (z : Bool) → z || false ≡ z
or_none true = refl
or_none false = refl

module _ (local : List ℕ) (a b : ℕ) where
  -- the byte at a + n, and the n before it
  module _ (n : ℕ) (s : Passing) (h : a + n < length s.main) where
    abbrev r : ℕ
    r = (summed (signing local) a b n s).result

    abbrev end : Passing
    end = pass (signing local) a b (suc n) s

    last_value : value end.main a n * 100 + val r ≡ value end.main a (suc n)
    unfolding pass value
    last_value =
        ap (λ (k : ℕ). value end.main a n * 100 + val k)
        (sym (pass_others (signing local) a b n (onward (signing local) a b n s) (a + n) (omega arith) ∙ get_or-set_same s.main (a + n) r 0 h))

    one_more : let m = s.status in end.status ≡ marked m.s0 ((m.s2 || some r) || some (value end.main a n)) false m.s6 m.s7
        → end.status ≡ marked m.s0 (m.s2 || some (value end.main a (suc n))) false m.s6 m.s7
    one_more e =
        let m : Marks = s.status in
        let z = some_more m.s2 r (value end.main a n) ∙ ap (λ (v : ℕ). m.s2 || some v) last_value in
        e ∙ (λ i. marked m.s0 (z i) false m.s6 m.s7)

  -- S2 tells, and S4 is off
  pub pass_marks : (n : ℕ) (s : Passing) → a + suc n ≤ length s.main → let end = pass (signing local) a b (suc n) s in let m = s.status in
      end.status ≡ marked m.s0 (m.s2 || some (value end.main a (suc n))) false m.s6 m.s7
  unfolding pass signing value
  pass_marks zero s h =
      let m : Marks = s.status in
      one_more 0 s (omega arith) (λ i. marked m.s0 (sym (or_none (m.s2 || some (summed (signing local) a b 0 s).result)) i) false m.s6 m.s7)
  pass_marks (suc n) s h =
      let t : Passing = onward (signing local) a b (suc n) s in
      one_more (suc n) s (omega arith) (pass_marks n t (rw (length-set s.main (a + suc n) (summed (signing local) a b (suc n) s).result) (omega arith)))
