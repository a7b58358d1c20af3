-- How many digits a number has. Assumes nothing.
use Prim.Native.Nat.{ℕ, zero, suc, ◌+◌, ◌*◌, ◌/◌, ◌^◌, ◌<◌, ◌≤◌}
use mathlib.Core.Path.{◌≡◌, refl, sym, ap, ◌∙◌}
use native.Mathlib.Nat.{pow-suc}
use native.Mathlib.Omega.{arith}
use borrow.Author.Tests.{lt-ltb, le-ltb}
use Rattle.std.specs.Prelude.{Option, Some, None, IfSome, IfNone, unwrap_or}
use Rattle.std.proofs.Math.Nat.{one-le-pow}
use Rattle.figures.specs.Figures.{digit_count}

count_one : (j n : ℕ) → n < 10 → digit_count j n ≡ 1
unfolding digit_count
count_one zero n h = refl
count_one (suc j) n h = rw (lt-ltb n 10 h)

count_more : (j n : ℕ) → 10 ≤ n → digit_count (suc j) n ≡ suc (digit_count j (n / 10))
unfolding digit_count
count_more j n h = rw (le-ltb n 10 h)

-- one more than the greatest power of ten in it
count_power : (j k n : ℕ) → k ≤ j → 10 ^ k ≤ n → n < 10 * 10 ^ k → digit_count j n ≡ k + 1
count_power j zero n h p q = count_one j n q
count_power zero (suc k) n h p q = absurd (omega arith)
count_power (suc j) (suc k) n h p q =
    let some = one-le-pow k 10 (omega arith) in
    let low = rw pow-suc at p in
    let high = rw pow-suc at q in
    count_more j n (omega arith) ∙ ap suc (count_power j k (n / 10) (omega arith) (omega arith) (omega arith)) ∙ omega arith

pub counted : (r : Option ℕ) (n : ℕ) → IfNone r (n ≡ 0) → IfSome r (λ k. 10 ^ k ≤ n) → IfSome r (λ k. n < 10 * 10 ^ k) → IfSome r (λ k. k < 20) → (unwrap_or r 0 + 1 ≡ digit_count 19 n) × (unwrap_or r 0 + 1 ≤ 20)
counted None n z p q b = (sym (count_one 19 n (omega (arith, z))), omega arith)
counted (Some k) n z p q b = (sym (count_power 19 k n (omega (arith, b)) p q), omega (arith, b))
