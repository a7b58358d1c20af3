-- What a pass that sums leaves in storage: decimal digits that write the sum, or the difference. Assumes nothing.
use Prim.Native.Nat.{ℕ, zero, suc, ◌+◌, ◌*◌, ◌^◌, ◌<◌, ◌≤◌}
use mathlib.Core.Path.{◌≡◌, refl, sym, ap, subst, ◌∙◌}
use mathlib.Core.List.{List}
use mathlib.Core.Bool.{Bool, true, false, cond}
use mathlib.Core.Logic.{◌≢◌, ◌⊎◌, inl, inr, ⊎_elim}
use native.Mathlib.Omega.{arith}
use native.Mathlib.Nat.{pow-suc, mul_right_comm}
use borrow.Author.Count.{below_more}
use lib.ListN.{length, get_or, set, length-set}
use lib.Seq.{get_or-set_same, get_or-set_other}
use Rattle.digits.specs.Bits.{one}
use Rattle.digits.specs.Digits.{both_decimal, val}
use Rattle.digits.proofs.Bits.{one_lt}
use Rattle.digits.proofs.Truth.{either_way}
use Rattle.storage.specs.declared.Fence.{Fence}
use Rattle.adder.specs.Adder.{entering}
use Rattle.adder.specs.declared.Sum.{Sum}
use Rattle.adder.proofs.Laws.{arithmetic, decimal_sum, decimal_difference, both_at_most}
use Rattle.decimal.specs.Value.{value}
use Rattle.decimal.proofs.Places.{Marks}
use Rattle.decimal.proofs.Pass2.{Summing, Passing, Fits, fits_on, onward, summed, pass}
use Rattle.decimal.proofs.Fields.{Sound, value_same}

-- n bytes at a that with the carry k write x + y + c; or, of a difference, x - y - 1 + c and 100^n more
pub record Stands (less : Bool) (a n : ℕ) (main main' : List ℕ) (x y : ℕ) (c k : Bool) : Type 0 where
  pub size : length main' ≡ length main
  pub others : (j : ℕ) → (j < a) ⊎ (a + n ≤ j) → get_or main' j 0 ≡ get_or main j 0
  pub digits : Sound main' a n
  pub sum : value main' a n + 100 ^ n * one k + cond less (y + 1) 0 ≡ x + cond less (100 ^ n) y + one c

-- one byte: its decimal sum or difference
module _ (x y : ℕ) (c : Bool) (dx : both_decimal x ≡ true) (dy : both_decimal y ≡ true) where
  abbrev pub byte_sum : Bool → Sum
  byte_sum less = arithmetic true x (entering true less y) (one c)

  pub byte_writes : (less : Bool) → val (byte_sum less).result + 100 * one (byte_sum less).ac + cond less (val y + 1) 0 ≡ val x + cond less 100 (val y) + one c
  byte_writes false = omega (arith, (decimal_sum x y (one c) dx dy (one_lt c)).value)
  byte_writes true = omega (arith, (decimal_difference x y (one c) dx dy (one_lt c)).value, both_at_most y dy)

  pub byte_decimal : (less : Bool) → both_decimal (byte_sum less).result ≡ true
  byte_decimal false = (decimal_sum x y (one c) dx dy (one_lt c)).decimal
  byte_decimal true = (decimal_difference x y (one c) dx dy (one_lt c)).decimal

hundred : (n k : ℕ) → 100 ^ suc n * k ≡ 100 ^ n * k * 100
hundred n k = rw pow-suc (mul_right_comm (100 ^ n) 100 k)

-- no byte, and the byte at a + n with the n before it
pub stands_none : (less : Bool) (a : ℕ) (main : List ℕ) (c : Bool) → Stands less a 0 main main 0 0 c c
unfolding value
stands_none true a main c = record { size = refl; others = λ j h. refl; digits = λ i h. absurd (omega arith); sum = omega arith }
stands_none false a main c = record { size = refl; others = λ j h. refl; digits = λ i h. absurd (omega arith); sum = omega arith }

module _ (a n r x y vx vy : ℕ) (main main' : List ℕ) (c k q : Bool) (decimal : both_decimal r ≡ true) (fit : a + n < length main) where
  pub stands_more : (less : Bool) → val r + 100 * one k + cond less (vy + 1) 0 ≡ vx + cond less 100 vy + one c → Stands less a n (set main (a + n) r) main' x y k q
      → Stands less a (suc n) main main' (x * 100 + vx) (y * 100 + vy) c q
  unfolding value
  stands_more less byte st =
      record {
        size = st.size ∙ length-set main (a + n) r;
        others = λ j. ⊎_elim (λ h. st.others j (inl h) ∙ other j (omega arith)) (λ h. st.others j (inr (omega arith)) ∙ other j (omega arith));
        digits = λ i h. below_more (λ (i : ℕ). both_decimal (get_or main' (a + i) 0) ≡ true) n st.digits (rw here_r decimal) i (omega arith);
        sum = total less byte st.sum;
      }
    where
      other : (j : ℕ) → j ≢ a + n → get_or (set main (a + n) r) j 0 ≡ get_or main j 0
      other j ne = get_or-set_other main (a + n) j r 0 ne

      here_r : get_or main' (a + n) 0 ≡ r
      here_r = st.others (a + n) (inr (omega arith)) ∙ get_or-set_same main (a + n) r 0 fit

      total : (less : Bool) → val r + 100 * one k + cond less (vy + 1) 0 ≡ vx + cond less 100 vy + one c → value main' a n + 100 ^ n * one q + cond less (y + 1) 0 ≡ x + cond less (100 ^ n) y + one k
          → value main' a n * 100 + val (get_or main' (a + n) 0) + 100 ^ suc n * one q + cond less (y * 100 + vy + 1) 0 ≡ x * 100 + vx + cond less (100 ^ suc n) (y * 100 + vy) + one c
      total false byte sum = rw (here_r, hundred n (one q)) (omega arith)
      total true byte sum = rw (here_r, hundred n (one q), pow-suc) (omega arith)

-- ---- a pass

-- the byte at a + n first: it is written, and the n before it are as they were
module _ {fence : Fence} {store local : List ℕ} (p : Summing fence store local) (a b n : ℕ) (s : Passing) (f : Fits p a b (suc n) s) where
  abbrev t : Passing
  t = onward p a b n s

  abbrev r : ℕ
  r = (summed p a b n s).result

  other_a : (i : ℕ) → i < n → get_or t.main (a + i) 0 ≡ get_or s.main (a + i) 0
  other_a i h = get_or-set_other s.main (a + n) (a + i) r 0 (λ e. omega arith)

  other_b : (i : ℕ) → i < n → get_or t.main (b + i) 0 ≡ get_or s.main (b + i) 0
  other_b i h = get_or-set_other s.main (a + n) (b + i) r 0 (f.clear n i h (omega arith))

  pub sound_a : Sound s.main a n → Sound t.main a n
  sound_a d i h = rw (other_a i h) (d i h)

  pub sound_b : Sound s.main b n → Sound t.main b n
  sound_b d i h = rw (other_b i h) (d i h)

  -- x and y are what of its two bytes is summed
  pub stands_on : (less first : Bool) (x y : ℕ) → summed p a b n s ≡ arithmetic true x (entering true less y) (one s.carry) → both_decimal x ≡ true → both_decimal y ≡ true → (main' : List ℕ) (k : Bool)
      → Stands less a n t.main main' (cond first (value t.main a n) 0) (value t.main b n) t.carry k
      → Stands less a (suc n) s.main main' (cond first (value s.main a n) 0 * 100 + val x) (value s.main b n * 100 + val y) s.carry k
  stands_on less first x y is dx dy main' k rest =
      stands_more a n r (cond first (value s.main a n) 0) (value s.main b n) (val x) (val y) s.main main' s.carry t.carry k
      (ap (λ (z : Sum). both_decimal z.result) is ∙ byte_decimal x y s.carry dx dy less) (omega (arith, f.in_a.in_main)) less
      (ap (λ (z : Sum). val z.result + 100 * one z.ac + cond less (val y + 1) 0) is ∙ byte_writes x y s.carry dx dy less)
      (subst (λ (v : ℕ). Stands less a n t.main main' (cond first v 0) (value s.main b n) t.carry k) (value_same t.main s.main a n other_a)
      (subst (λ (v : ℕ). Stands less a n t.main main' (cond first (value t.main a n) 0) v t.carry k) (value_same t.main s.main b n other_b) rest))

-- where the marks stay such that each byte of the first field, or none, takes each of the second
module _ {fence : Fence} {store local : List ℕ} (p : Summing fence store local) (less first : Bool) (Good : Marks → Type 0)
    (sums : (m : Marks) → Good m → (x y : ℕ) (c : Bool) → p.sum m x y c ≡ arithmetic true (cond first x 0) (entering true less y) (one c))
    (stays : (m : Marks) (r : ℕ) → Good m → Good (p.next m r)) (a b : ℕ) where
  taken : (first : Bool) (x : ℕ) → both_decimal x ≡ true → both_decimal (cond first x 0) ≡ true
  taken true x d = d
  taken false x d = refl

  worth : (first : Bool) (v x : ℕ) → cond first v 0 * 100 + val (cond first x 0) ≡ cond first (v * 100 + val x) 0
  worth true v x = refl
  worth false v x = refl

  pub stands : (n : ℕ) (s : Passing) → Good s.status → Fits p a b n s → Sound s.main a n → Sound s.main b n
      → Stands less a n s.main (pass p a b n s).main (cond first (value s.main a n) 0) (value s.main b n) s.carry (pass p a b n s).carry
  unfolding pass value
  stands zero s good f da db = subst (λ (x : ℕ). Stands less a 0 s.main s.main x 0 s.carry s.carry) (sym (either_way first 0)) (stands_none less a s.main s.carry)
  stands (suc n) s good f da db =
      let x : ℕ = get_or s.main (a + n) 0 in
      let y : ℕ = get_or s.main (b + n) 0 in
      let next : Passing = onward p a b n s in
      let end : Passing = pass p a b n next in
      subst (λ (v : ℕ). Stands less a (suc n) s.main end.main v (value s.main b n * 100 + val y) s.carry end.carry) (worth first (value s.main a n) x)
      (stands_on p a b n s f less first (cond first x 0) y (sums s.status good x y s.carry) (taken first x (da n (omega arith))) (db n (omega arith)) end.main end.carry
      (stands n next (stays s.status _ good) (fits_on p a b n s f) (sound_a p a b n s f (λ i h. da i (omega arith))) (sound_b p a b n s f (λ i h. db i (omega arith)))))
