-- The library's bytes of a number and its chunks of a list, as the definitions have them. Assumes nothing.
use Rattle.std.proofs.Common.{◌≡◌, ℕ, zero, suc, ◌/◌, List, [], ◌∷◌, length, take, drop, refl, ap, arith}
use Rattle.std.specs.Int.{w64, from_be_bytes, to_be_bytes}
use Rattle.std.specs.Simd.{first_chunks}
use Rattle.digits.specs.Lists.{pieces}
use Rattle.digits.specs.Number.{digits_of, number_of}

pub chunks_are : {A : Type 0} (k n : ℕ) (l : List A) → first_chunks k n l ≡ pieces k n l
chunks_are k zero l = refl
chunks_are k (suc n) l = ap (λ r. take k l ∷ r) (chunks_are k n (drop k l))

pub number_be : (bs : List ℕ) → length bs ≡ 8 → from_be_bytes w64 bs ≡ number_of 8 bs
number_be [] k = absurd (omega arith)
number_be (a ∷ []) k = absurd (omega arith)
number_be (a ∷ b ∷ []) k = absurd (omega arith)
number_be (a ∷ b ∷ c ∷ []) k = absurd (omega arith)
number_be (a ∷ b ∷ c ∷ d ∷ []) k = absurd (omega arith)
number_be (a ∷ b ∷ c ∷ d ∷ e ∷ []) k = absurd (omega arith)
number_be (a ∷ b ∷ c ∷ d ∷ e ∷ f ∷ []) k = absurd (omega arith)
number_be (a ∷ b ∷ c ∷ d ∷ e ∷ f ∷ g ∷ []) k = absurd (omega arith)
number_be (a ∷ b ∷ c ∷ d ∷ e ∷ f ∷ g ∷ h ∷ []) k = omega arith
number_be (a ∷ b ∷ c ∷ d ∷ e ∷ f ∷ g ∷ h ∷ i ∷ l) k = absurd (omega arith)

pub digits_be : (n : ℕ) → to_be_bytes w64 n ≡ digits_of 8 8 n
digits_be n = let e : n / 1 ≡ n = omega arith in rw e
