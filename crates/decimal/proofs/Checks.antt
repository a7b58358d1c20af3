-- The entry's tests as the code makes them, where no sum of wild numbers is formed; and what they leave. Assumes nothing.
use Prim.Native.Nat.{ℕ, suc, ◌+◌, ◌-◌, ◌<◌, ◌≤◌}
use mathlib.Core.Path.{◌≡◌, refl}
use mathlib.Core.Bool.{Bool, true, false, not, ◌&&◌, ◌||◌}
use native.Mathlib.Omega.{arith}
use borrow.Author.Tests.{eqb-true, eqb-false, ltb-true, ltb-false, lt-ltb}
use lib.Dec.{eqb, ltb}
use Rattle.digits.specs.Refusal.{first}
use Rattle.digits.specs.Sizes.{storage_wrong}
use Rattle.std.specs.Prelude.{None}
use Rattle.digits.proofs.Refusals.{NoneHolds, first_none}
use Rattle.digits.proofs.Sizes.{right_storage}
use Rattle.digits.proofs.Truth.{zero_one, neither, same_test}
use Rattle.storage.specs.declared.Fence.{Fence}
use Rattle.decimal.specs.Entry.{past_end, not_within, overlap, field_checks, add_checks}
use Rattle.decimal.proofs.Pairs.{Lies}
use Rattle.decimal.proofs.Pass2.{Clear}

-- a field no longer than main storage
pub past_is : (main start n : ℕ) → n ≤ main → ltb (main - n) start ≡ past_end main start n
past_is main start n h = same_test (suc (main - n)) start (suc main) (start + n) (λ y. omega arith) (λ n. omega arith)

-- fields overlap where they are nearer than their length
pub overlap_is : (a b n : ℕ) → not (eqb a b) && ltb ((a - b) + (b - a)) n ≡ overlap a b n
overlap_is a b n = by (eqb a b) (ltb ((a - b) + (b - a)) n) refl refl
  where
    far : (p q : Bool) → ltb a (b + n) ≡ p → ltb b (a + n) ≡ q → (a < b + n → b < a + n → ⊥) → false ≡ p && q
    far true true e f never = absurd (never (ltb-true a (b + n) e) (ltb-true b (a + n) f))
    far true false e f never = refl
    far false q e f never = refl

    by : (p q : Bool) → eqb a b ≡ p → ltb ((a - b) + (b - a)) n ≡ q → not p && q ≡ not p && (ltb a (b + n) && ltb b (a + n))
    by true q e f = refl
    by false true e f =
        let l = ltb-true ((a - b) + (b - a)) n f in
        rw (lt-ltb a (b + n) (omega arith), lt-ltb b (a + n) (omega arith))
    by false false e f =
        let l = ltb-false ((a - b) + (b - a)) n f in
        let ne = eqb-false a b e in
        far (ltb a (b + n)) (ltb b (a + n)) refl refl (λ x y. ne (omega arith))

-- ---- two fields of n bytes, at a and at b

pub record Fit (fence : Fence) (main local a b n : ℕ) : Type 0 where
  pub sizes : storage_wrong main local ≡ false
  pub fits : main ≤ 65536
  pub some : 1 ≤ n
  pub few : n ≤ 16
  pub in_a : Lies fence main a n
  pub in_b : Lies fence main b n
  pub clear : Clear a b n

-- fields of no bytes do not
pub no_bytes : {fence : Fence} {main local a b : ℕ} → Fit fence main local a b 0 → ⊥
no_bytes f = omega (arith, f.some)

-- they start together, or are apart
clear_of : (a b n : ℕ) → overlap a b n ≡ false → Clear a b n
clear_of a b n o i j h k e = by (eqb a b) (ltb a (b + n)) (ltb b (a + n)) refl refl refl o
  where
    by : (p q r : Bool) → eqb a b ≡ p → ltb a (b + n) ≡ q → ltb b (a + n) ≡ r → not p && (q && r) ≡ false → ⊥
    by true q r x y z o = omega (arith, eqb-true a b x)
    by false false r x y z o = omega (arith, ltb-false a (b + n) y)
    by false true false x y z o = omega (arith, ltb-false b (a + n) z)
    by false true true x y z o = zero_one cc

-- past 13
lies_of : (fence : Fence) (main a n : ℕ) → not_within fence main a n ≡ false → Lies fence main a n
lies_of fence main a n h =
    let (past, other) = neither (past_end main a n) (ltb a fence.start || past_end fence.end a n) h in
    let (low, high) = neither (ltb a fence.start) (past_end fence.end a n) other in
    record { in_main = ltb-false main (a + n) past; low = ltb-false a fence.start low; high = ltb-false fence.end (a + n) high }

-- past 1, and past 12, 13 and 14
pub checked : (fence : Fence) (main local a b n : ℕ) → storage_wrong main local ≡ false → NoneHolds (field_checks fence main a b n) → Fit fence main local a b n
checked fence main local a b n sizes none =
    let (short, long) = neither (ltb n 1) (ltb 16 n) none.0 in
    let (past-a, past-b) = neither (not_within fence main a n) (not_within fence main b n) none.1.0 in
    record {
      sizes = sizes;
      fits = (right_storage main local sizes).0;
      some = ltb-false n 1 short;
      few = ltb-false 16 n long;
      in_a = lies_of fence main a n past-a;
      in_b = lies_of fence main b n past-b;
      clear = clear_of a b n none.1.1.0;
    }

-- of the entry's own list
pub accepted : (fence : Fence) (main local a b n : ℕ) → first (add_checks fence main local a b n) ≡ None → Fit fence main local a b n
accepted fence main local a b n e =
    let none = first_none (add_checks fence main local a b n) e in
    checked fence main local a b n none.0 none.1
