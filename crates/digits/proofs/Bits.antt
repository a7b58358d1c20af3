-- The laws of a bit in a byte, over the bit's number. Assumes nothing.
use Prim.Native.Nat.{ℕ, suc, ◌+◌, ◌-◌, ◌*◌, ◌/◌, ◌%◌, ◌^◌, ◌<◌, min}
use mathlib.Core.Path.{◌≡◌, refl, sym, ap, subst, ◌∙◌}
use mathlib.Core.Bool.{Bool, true, false}
use mathlib.Core.Logic.{◌≢◌}
use native.Mathlib.Nat.{mod-lt, pow-suc, mul_assoc, mul_comm, add-mul}
use native.Mathlib.Omega.{arith}
use lib.Dec.{eqb, ltb}
use borrow.Author.Tests.{ltb-true, ltb-false, eqb-true, eqb-false}
use lib.Arith.{digits_lt}
use lib.Pow.{pow_pos, pow-add, split, high, low, shr_lt, shr-shr, field, mod-mod-pow}
use Rattle.digits.specs.Bits.{one, bit, with_bit}

pub one_lt : (b : Bool) → one b < 2
one_lt true = omega arith
one_lt false = omega arith

one_eqb : (b : Bool) → eqb (one b) 1 ≡ b
one_eqb true = refl
one_eqb false = refl

-- the number x with b at the place that has k places below it
abbrev put : ℕ → ℕ → ℕ → ℕ
put x k b = x / 2 ^ suc k * 2 ^ suc k + b * 2 ^ k + x % 2 ^ k

put_is : (x k b : ℕ) → put x k b ≡ (x / 2 ^ suc k * 2 + b) * 2 ^ k + x % 2 ^ k
put_is x k b = rw (add-mul, mul_assoc, mul_comm 2 (2 ^ k), ← pow-suc 2 k)

module _ (x k b : ℕ) (bit-b : b < 2) where
  above : put x k b / 2 ^ k ≡ x / 2 ^ suc k * 2 + b
  above = ap (λ (n : ℕ). n / 2 ^ k) (put_is x k b) ∙ high (x / 2 ^ suc k * 2 + b) k (mod-lt x (pow_pos k))

  below : put x k b % 2 ^ k ≡ x % 2 ^ k
  below = ap (λ (n : ℕ). n % 2 ^ k) (put_is x k b) ∙ low (x / 2 ^ suc k * 2 + b) k (mod-lt x (pow_pos k))

  put_same : put x k b / 2 ^ k % 2 ≡ b
  put_same = rw above (omega arith)

  -- a place d + 1 higher
  put_higher : (d : ℕ) → put x k b / 2 ^ (k + suc d) ≡ x / 2 ^ (k + suc d)
  put_higher d =
      let e : k + suc d ≡ k + 1 + d = omega arith in
      let s : suc k ≡ k + 1 = omega arith in
      let h : (x / 2 ^ suc k * 2 + b) / 2 ^ 1 ≡ x / 2 ^ suc k = omega arith in
      rw e
      (sym (shr-shr (put x k b) (k + 1) d) ∙ ap (λ (n : ℕ). n / 2 ^ d) (sym (shr-shr (put x k b) k 1) ∙ ap (λ (n : ℕ). n / 2 ^ 1) above ∙ h ∙ ap (λ (n : ℕ). x / 2 ^ n) s)
      ∙ shr-shr x (k + 1) d)

  -- a place j, with d places between them
  put_lower : (j d : ℕ) → k ≡ d + (1 + j) → put x k b / 2 ^ j % 2 ≡ x / 2 ^ j % 2
  put_lower j d e =
      let low_bits : (n : ℕ) → n % 2 ^ k % 2 ^ (1 + j) ≡ n % 2 ^ (1 + j) = λ n. rw e (mod-mod-pow n d (1 + j)) in
      sym (field (put x k b) 1 j)
      ∙ ap (λ (n : ℕ). n / 2 ^ j) (sym (low_bits (put x k b)) ∙ ap (λ (n : ℕ). n % 2 ^ (1 + j)) below ∙ low_bits x)
      ∙ field x 1 j

  put_other : (j : ℕ) → j ≢ k → put x k b / 2 ^ j % 2 ≡ x / 2 ^ j % 2
  put_other j ne = by (ltb j k) refl
    where
      by : (t : Bool) → ltb j k ≡ t → put x k b / 2 ^ j % 2 ≡ x / 2 ^ j % 2
      by true t = put_lower j (k - (1 + j)) (omega (arith, ltb-true j k t))
      by false t =
          let e : j ≡ k + suc (j - suc k) = omega (arith, ltb-false j k t, ne) in
          rw e (ap (λ (n : ℕ). n % 2) (put_higher (j - suc k)))

  put_lt : (n : ℕ) → x < 2 ^ (n + suc k) → put x k b < 2 ^ (n + suc k)
  put_lt n h =
      let q : x / 2 ^ suc k < 2 ^ n = shr_lt n (suc k) h in
      let e : 2 ^ (n + suc k) ≡ 2 ^ n * 2 * 2 ^ k =
      pow-add 2 n (suc k) ∙ ap (λ (m : ℕ). 2 ^ n * m) (pow-suc 2 k ∙ mul_comm (2 ^ k) 2) ∙ sym (mul_assoc (2 ^ n) 2 (2 ^ k)) in
      subst (λ (m : ℕ). put x k b < m) (sym e) (rw put_is (digits_lt (omega arith) (mod-lt x (pow_pos k))))

  -- what was there and what is put there make up for each other
  put_sum : put x k b + x / 2 ^ k % 2 * 2 ^ k ≡ x + b * 2 ^ k
  put_sum =
      let q : x / 2 ^ k / 2 ≡ x / 2 ^ suc k = shr-shr x k 1 ∙ ap (λ (n : ℕ). x / 2 ^ n) (omega arith) in
      let s : x / 2 ^ suc k * 2 + x / 2 ^ k % 2 ≡ x / 2 ^ k = omega arith in
      let t : (x / 2 ^ suc k * 2 + x / 2 ^ k % 2) * 2 ^ k + x % 2 ^ k ≡ x = ap (λ (n : ℕ). n * 2 ^ k + x % 2 ^ k) s ∙ split x k in
      omega (arith, put_is x k b, add-mul (x / 2 ^ suc k * 2) b (2 ^ k), add-mul (x / 2 ^ suc k * 2) (x / 2 ^ k % 2) (2 ^ k))

module _ (byte n : ℕ) (on : Bool) where
  -- the bit that was put
  pub bit_with : bit (with_bit byte n on) n ≡ on
  bit_with = rw (put_same byte (7 - n) (one on) (one_lt on)) (one_eqb on)

  -- every other bit
  pub bit_other : (m : ℕ) → m < 8 → n < 8 → m ≢ n → bit (with_bit byte n on) m ≡ bit byte m
  bit_other m h l ne = rw (put_other byte (7 - n) (one on) (one_lt on) (7 - m) (λ e. ne (omega arith)))

  -- a byte stays a byte
  pub with_lt : byte < 256 → with_bit byte n on < 256
  with_lt h =
      let e : min n 7 + suc (7 - n) ≡ 8 = omega arith in
      rw e at (put_lt byte (7 - n) (one on) (one_lt on) (min n 7) (rw e h))

-- ---- a bit as it was, turned off, turned on

module _ (byte n : ℕ) where
  worth : (b : Bool) → bit byte n ≡ b → byte / 2 ^ (7 - n) % 2 ≡ one b
  worth true e = eqb-true _ _ e
  worth false e = omega (arith, eqb-false (byte / 2 ^ (7 - n) % 2) 1 e)

  with_sum : (was on : Bool) → bit byte n ≡ was → with_bit byte n on + one was * 2 ^ (7 - n) ≡ byte + one on * 2 ^ (7 - n)
  with_sum was on e = rw (← worth was e) (put_sum byte (7 - n) (one on) (one_lt on))

  pub with_kept : (on : Bool) → bit byte n ≡ on → with_bit byte n on ≡ byte
  with_kept on e = omega (arith, with_sum on on e)

  pub with_off : bit byte n ≡ true → with_bit byte n false + 2 ^ (7 - n) ≡ byte
  with_off e = omega (arith, with_sum true false e)

  pub with_on : bit byte n ≡ false → with_bit byte n true ≡ byte + 2 ^ (7 - n)
  with_on e = omega (arith, with_sum false true e)
