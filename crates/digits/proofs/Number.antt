-- The laws of a number in places, over the width of a place and their number. Assumes nothing.
use Prim.Native.Nat.{ℕ, zero, suc, ◌+◌, ◌-◌, ◌*◌, ◌/◌, ◌%◌, ◌^◌, ◌<◌}
use mathlib.Core.Path.{◌≡◌, refl, sym, ap, ap₂, subst, ◌∙◌}
use mathlib.Core.List.{List, [], ◌∷◌, ◌++◌}
use native.Mathlib.Nat.{mod-eq_of_lt, mul_assoc, mul_comm, add-mul, zero-mul}
use native.Mathlib.Numerals.{add-one}
use native.Mathlib.Omega.{arith}
use lib.Pow.{pow-add, shr-shr}
use lib.ListN.{length, replicate, length-append, length-replicate}
use Rattle.digits.specs.Line.{total, parts, join}
use Rattle.digits.proofs.Lines.{Fit, join_parts, join_lt, parts_join}
use Rattle.digits.specs.Number.{digits_of, number_of}
use Rattle.digits.proofs.Table.{Below}

below_fit : (w : ℕ) (ds : List ℕ) → Below (2 ^ w) ds → Fit (replicate (length ds) w) ds
below_fit w [] h = tt
below_fit w (d ∷ ds) h = (h.0, below_fit w ds h.1)

length_parts : (ks : List ℕ) (n : ℕ) → length (parts ks n) ≡ length ks
length_parts [] n = refl
length_parts (k ∷ ks) n = ap suc (length_parts ks n)

module _ (w : ℕ) where
  pub length_digits : (k n : ℕ) → length (digits_of w k n) ≡ k
  length_digits k n = length_parts (replicate k w) n ∙ length-replicate k w

  -- the number of a number's places is the number
  pub number_digits : (k n : ℕ) → n < 2 ^ total (replicate k w) → number_of w (digits_of w k n) ≡ n
  number_digits k n h =
      ap (λ (m : ℕ). join (replicate m w) (digits_of w k n)) (length_digits k n) ∙ join_parts (replicate k w) n ∙ mod-eq_of_lt h

  -- the places of some places' number are the places
  pub digits_number : (k : ℕ) (ds : List ℕ) → length ds ≡ k → Below (2 ^ w) ds → digits_of w k (number_of w ds) ≡ ds
  digits_number k ds e h =
      ap (λ (m : ℕ). digits_of w m (number_of w ds)) (sym e) ∙ parts_join (replicate (length ds) w) ds (below_fit w ds h)

  pub number_lt : (k : ℕ) (ds : List ℕ) → length ds ≡ k → Below (2 ^ w) ds → number_of w ds < 2 ^ total (replicate k w)
  number_lt k ds e h =
      subst (λ (m : ℕ). number_of w ds < 2 ^ total (replicate m w)) e (join_lt (replicate (length ds) w) ds (below_fit w ds h))

  -- one place more, at the low end
  pub number_snoc : (ds : List ℕ) (d : ℕ) → number_of w (ds ++ (d ∷ [])) ≡ number_of w ds * 2 ^ w + d
  number_snoc [] d = rw (zero-mul (2 ^ w)) (omega arith)
  number_snoc (x ∷ ds) d =
      let t : ℕ = total (replicate (length ds) w) in
      let l : length (ds ++ (d ∷ [])) ≡ suc (length ds) = length-append ds (d ∷ []) ∙ add-one (length ds) in
      let p : x * 2 ^ (w + t) ≡ x * 2 ^ t * 2 ^ w = ap (λ (m : ℕ). x * m) (pow-add 2 w t ∙ mul_comm (2 ^ w) (2 ^ t)) ∙ sym (mul_assoc x (2 ^ t) (2 ^ w)) in
      ap₂ (λ (m n : ℕ). x * 2 ^ total (replicate m w) + n) l (number_snoc ds d)
      ∙ omega (arith, p, add-mul (x * 2 ^ t) (number_of w ds) (2 ^ w))

  digits_snoc : (k n : ℕ) → digits_of w (suc k) n ≡ digits_of w k (n / 2 ^ w) ++ (n % 2 ^ w ∷ [])
  digits_snoc zero n = ap (λ (m : ℕ). m % 2 ^ w ∷ []) (omega arith)
  digits_snoc (suc k) n =
      ap₂ (λ (d : ℕ) (ds : List ℕ). d ∷ ds) (ap (λ (m : ℕ). m % 2 ^ w) (sym (shr-shr n w (total (replicate k w))))) (digits_snoc k n)

  pub digits_last : (k n : ℕ) → 0 < k → digits_of w k n ≡ digits_of w (k - 1) (n / 2 ^ w) ++ (n % 2 ^ w ∷ [])
  digits_last zero n h = absurd (omega arith)
  digits_last (suc k) n h = let e : suc k - 1 ≡ k = omega arith in digits_snoc k n ∙ rw e
