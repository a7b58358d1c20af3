-- Sums of bytes: a pair of registers as one address, a count, a carry. Assumes nothing.
use Prim.Native.Nat.{ℕ, suc, ◌+◌, ◌*◌, ◌/◌, ◌%◌, ◌<◌, ◌≤◌}
use mathlib.Core.Path.{◌≡◌, refl, ap, ◌∙◌}
use mathlib.Core.Bool.{Bool, true, false, ◌||◌}
use native.Mathlib.Omega.{arith}
use lib.Dec.{eqb}
use borrow.Author.Tests.{ne_eqb}
use lib.Dec.{leb}
use Rattle.digits.specs.Bits.{one, bit, with_bit}
use Rattle.digits.proofs.Bits.{one_lt, bit_with}
use Rattle.storage.specs.Storage.{beyond}
use Rattle.storage.specs.declared.Fence.{Fence}
use Rattle.storage.proofs.Inside.{In, in_is}
use Rattle.adder.specs.Adder.{summed, result_of}
use Rattle.adder.specs.declared.Sum.{Sum}
use Rattle.adder.proofs.Laws.{arithmetic, arithmetic_byte, binary_sum}
use Rattle.decimal.proofs.Places.{halves, carries}

-- the sum of two bytes, and its carry
sum_is : (a b : ℕ) (carry : Bool) → a < 256 → b < 256 → let z = arithmetic false a b (one carry) in z.result + 256 * one z.ac ≡ a + b + one carry
sum_is a b carry ab bb = binary_sum a b (one carry) ab bb (one_lt carry)

-- two bytes and two more, the low sum's carry going into the high one
pair_sum : (high low k j : ℕ) (c : Bool) → high < 256 → low < 256 → k < 256 → j < 256
    → let l = arithmetic false low j (one c) in (arithmetic false high k (one l.ac)).result * 256 + l.result ≡ (high * 256 + low + (k * 256 + j + one c)) % 65536
pair_sum high low k j c hb lb kb jb =
    let d = (arithmetic false low j (one c)).ac in
    omega (
      arith,
      sum_is low j c lb jb,
      arithmetic_byte false low j (one c),
      sum_is high k d hb kb,
      arithmetic_byte false high k (one d),
      one_lt d,
      one_lt (arithmetic false high k (one d)).ac,
    )

-- j to the low register of an address, and k to its high one by way of S3
abbrev pub low_sum : ℕ → ℕ → Bool → Sum
low_sum a j c = arithmetic false (a % 256) j (one c)

abbrev pub high_sum : ℕ → ℕ → ℕ → ℕ → Bool → Sum
high_sum s a k j c = arithmetic false (a / 256 % 256) k (one (bit (with_bit s 3 (low_sum a j c).ac) 3))

-- make another address
moved : (s a k j : ℕ) (c : Bool) → k < 256 → j < 256 → (b : ℕ) → (a + (k * 256 + j + one c)) % 65536 ≡ b % 65536 → ((high_sum s a k j c).result, (low_sum a j c).result) ≡ halves b
moved s a k j c kb jb b e =
    let t : (high_sum s a k j c).result * 256 + (low_sum a j c).result ≡ (a / 256 % 256 * 256 + a % 256 + (k * 256 + j + one c)) % 65536 =
    rw (bit_with s 3 (low_sum a j c).ac) (pair_sum (a / 256 % 256) (a % 256) k j c (omega arith) (omega arith) kb jb) in
    halved (high_sum s a k j c).result (low_sum a j c).result b (arithmetic_byte false (a % 256) j (one c)) (t ∙ registers a (k * 256 + j + one c) ∙ e)
  where
    registers : (a m : ℕ) → (a / 256 % 256 * 256 + a % 256 + m) % 65536 ≡ (a + m) % 65536
    registers a m = omega arith

    halved : (x y b : ℕ) → y < 256 → x * 256 + y ≡ b % 65536 → (x, y) ≡ halves b
    halved x y b l e =
        let p : x ≡ b / 256 % 256 = omega arith in
        let q : y ≡ b % 256 = omega arith in
        λ i. (p i, q i)

-- one up, one down, and l up
pub up : (s a : ℕ) → ((high_sum s a 0 0 true).result, (low_sum a 0 true).result) ≡ halves (a + 1)
up s a = moved s a 0 0 true (omega arith) (omega arith) (a + 1) (omega arith)

pub down : (s a a⁺ : ℕ) → a⁺ ≡ a + 1 → ((high_sum s a⁺ 255 255 false).result, (low_sum a⁺ 255 false).result) ≡ halves a
down s a a⁺ e = moved s a⁺ 255 255 false (omega arith) (omega arith) a (omega arith)

pub along : (s a l : ℕ) → l < 256 → ((high_sum s a 0 l false).result, (low_sum a l false).result) ≡ halves (a + l)
along s a l small = moved s a 0 l false (omega arith) small (a + l) (omega arith)

-- the address that two registers hold
abbrev pub held : ℕ → ℕ
held a = a / 256 % 256 * 256 + a % 256

-- one inside main storage and the fence
module _ (fence : Fence) (a size : ℕ) (inside : In fence size a) (fits : size ≤ 65536) where
  pub address : held a ≡ a
  address = omega (arith, inside.in_main)

  pub within : leb size (held a) || beyond fence (held a) ≡ false
  within = rw address (in_is fence size a inside)

-- a field of n bytes there
pub record Lies (fence : Fence) (size a n : ℕ) : Type 0 where
  pub in_main : a + n ≤ size
  pub low : fence.start ≤ a
  pub high : a + n ≤ fence.end

module _ {fence : Fence} {size a n : ℕ} where
  -- its first byte and the others, its last byte and the others
  pub first_in : Lies fence size a (suc n) → In fence size a
  first_in l = record { in_main = omega (arith, l.in_main); in_fence = (l.low, omega (arith, l.high)) }

  pub next_lies : Lies fence size a (suc n) → Lies fence size (a + 1) n
  next_lies l = record { in_main = omega (arith, l.in_main); low = omega (arith, l.low); high = omega (arith, l.high) }

  pub last_in : Lies fence size a (suc n) → In fence size (a + n)
  last_in l = record { in_main = omega (arith, l.in_main); in_fence = (omega (arith, l.low), omega (arith, l.high)) }

  pub front_lies : Lies fence size a (suc n) → Lies fence size a n
  front_lies l = record { in_main = omega (arith, l.in_main); low = l.low; high = omega (arith, l.high) }

-- the registers of an address
pub starts : (a : ℕ) → a < 65536 → (a / 256, a % 256) ≡ halves a
starts a h = let e : a / 256 ≡ a / 256 % 256 = omega arith in λ i. (e i, a % 256)

-- a register less 1, and whether nothing is left
module _ (k : ℕ) (small : k < 255) where
  pub one_less : (arithmetic false (suc k) 255 0).result ≡ k
  one_less = omega (arith, arithmetic_byte false (suc k) 255 0, sum_is (suc k) 255 false (omega arith) (omega arith), one_lt (arithmetic false (suc k) 255 0).ac)

  pub none_left : (arithmetic false (suc k) 255 0).z0 ≡ eqb k 0
  unfolding summed result_of
  none_left = ap (λ (n : ℕ). eqb n 0) one_less

pub some_left : (k : ℕ) → eqb (suc k) 0 ≡ false
some_left k = ne_eqb (suc k) 0 (λ e. omega arith)

-- and one more
pub one_more : (k : ℕ) → k < 255 → (arithmetic false k 0 1).result ≡ suc k
one_more k small = omega (arith, arithmetic_byte false k 0 1, sum_is k 0 true (omega arith) (omega arith), one_lt (arithmetic false k 0 1).ac)

-- the sum of a byte and 0
pub same : (a : ℕ) → a < 256 → (arithmetic false a 0 0).result ≡ a
same a h = omega (arith, arithmetic_byte false a 0 0, sum_is a 0 false h (omega arith), one_lt (arithmetic false a 0 0).ac)

-- two bytes copied
pub copied : (u v : ℕ) → u < 256 → v < 256 → ◌≡◌ {A = ℕ × ℕ} ((arithmetic false u 0 0).result, (arithmetic false v 0 0).result) (u, v)
copied u v hu hv = λ i. (same u hu i, same v hv i)

-- a carry put into H from S3
pub kept_carry : (s : ℕ) (c : Bool) → carries (arithmetic false 0 0 (one (bit (with_bit s 3 c) 3))).result ≡ c
unfolding summed result_of
kept_carry s c = ap (λ (b : Bool). carries (arithmetic false 0 0 (one b)).result) (bit_with s 3 c) ∙ by c
  where
    by : (c : Bool) → carries (arithmetic false 0 0 (one c)).result ≡ c
    by true = refl
    by false = refl
