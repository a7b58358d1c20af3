-- The laws of a line of fields, by induction over the widths. Assumes nothing.
use Prim.Native.Nat.{ℕ, ◌+◌, ◌-◌, ◌*◌, ◌/◌, ◌%◌, ◌^◌, ◌<◌}
use mathlib.Core.Path.{◌≡◌, refl, sym, ap, ap₂, ◌∙◌, subst}
use mathlib.Core.List.{List, [], ◌∷◌}
use mathlib.Core.Bool.{Bool, true, false, cond}
use lib.Dec.{ltb}
use borrow.Author.Tests.{ltb-true, lt-ltb}
use native.Mathlib.Nat.{mod-lt, mod-one, mod-eq_of_lt, add_assoc, zero-add, lt_of_le_of_lt, zero-lt-suc}
use lib.Arith.{digits_lt}
use lib.Pow.{pow_pos, pow-add, split, high, low, mod-pow-add, field, mod-mod-pow, ones_lt}
use lib.Bits.{bit_and, and_block, and_mask, and_zero_r, and_le_l}
use lib.Count.{ones, ones_cat}
use Rattle.digits.specs.Line.{total, slot, parts, join, fit, ones_of}
use Rattle.digits.proofs.Truth.{zero_one, both}

-- each value fits its width, and there are as many values as widths
abbrev pub Fit : List ℕ → List ℕ → Type 0
Fit [] [] = Unit {0}
Fit [] (v ∷ vs) = ⊥
Fit (k ∷ ks) [] = ⊥
Fit (k ∷ ks) (v ∷ vs) = (v < 2 ^ k) × Fit ks vs

-- the number of a number's fields is its low bits
pub join_parts : (ks : List ℕ) (n : ℕ) → join ks (parts ks n) ≡ n % 2 ^ total ks
join_parts [] n = sym (mod-one n)
join_parts (k ∷ ks) n =
    ap (λ (x : ℕ). slot (total ks) k n * 2 ^ total ks + x) (join_parts ks n) ∙ sym (mod-pow-add n k (total ks))

-- fields that fit make a number that fits
pub join_lt : (ks vs : List ℕ) → Fit ks vs → join ks vs < 2 ^ total ks
join_lt [] [] h = zero-lt-suc 0
join_lt [] (v ∷ vs) h = absurd h
join_lt (k ∷ ks) [] h = absurd h
join_lt (k ∷ ks) (v ∷ vs) h =
    subst (λ (x : ℕ). v * 2 ^ total ks + join ks vs < x) (sym (pow-add 2 k (total ks))) (digits_lt h.0 (join_lt ks vs h.1))

-- a field of the low bits is a field of the number
slot_mod : (d t k n : ℕ) → slot t k (n % 2 ^ (d + (k + t))) ≡ slot t k n
slot_mod d t k n =
    sym (field (n % 2 ^ (d + (k + t))) k t) ∙ ap (λ (x : ℕ). x / 2 ^ t) (mod-mod-pow n d (k + t)) ∙ field n k t

parts_mod : (d : ℕ) (ks : List ℕ) (n : ℕ) → parts ks (n % 2 ^ (d + total ks)) ≡ parts ks n
parts_mod d [] n = refl
parts_mod d (k ∷ ks) n =
    ap₂ (λ (x : ℕ) (l : List ℕ). x ∷ l) (slot_mod d (total ks) k n)
    (ap (λ (e : ℕ). parts ks (n % 2 ^ e)) (sym (add_assoc d k (total ks))) ∙ parts_mod (d + k) ks n)

parts_low : (ks : List ℕ) (n : ℕ) → parts ks (n % 2 ^ total ks) ≡ parts ks n
parts_low ks n = ap (λ (e : ℕ). parts ks (n % 2 ^ e)) (sym (zero-add (total ks))) ∙ parts_mod 0 ks n

-- the fields of the number of fields that fit
pub parts_join : (ks vs : List ℕ) → Fit ks vs → parts ks (join ks vs) ≡ vs
parts_join [] [] h = refl
parts_join [] (v ∷ vs) h = absurd h
parts_join (k ∷ ks) [] h = absurd h
parts_join (k ∷ ks) (v ∷ vs) h =
    let l : join ks vs < 2 ^ total ks = join_lt ks vs h.1 in
    ap₂ (λ (x : ℕ) (t : List ℕ). x ∷ t)
    (ap (λ (x : ℕ). x % 2 ^ k) (high v (total ks) l) ∙ mod-eq_of_lt h.0)
    (sym (parts_low ks (v * 2 ^ total ks + join ks vs)) ∙ ap (parts ks) (low v (total ks) l) ∙ parts_join ks vs h.1)

-- the fields of any number fit
pub parts_fit : (ks : List ℕ) (n : ℕ) → Fit ks (parts ks n)
parts_fit [] n = tt
parts_fit (k ∷ ks) n = (mod-lt (n / 2 ^ total ks) (pow_pos k), parts_fit ks n)

-- the test, as the fact, and the fact as the test
pub fit_true : (ks vs : List ℕ) → fit ks vs ≡ true → Fit ks vs
fit_true [] [] h = tt
fit_true [] (v ∷ vs) h = zero_one cc
fit_true (k ∷ ks) [] h = zero_one cc
fit_true (k ∷ ks) (v ∷ vs) h =
    let (first, rest) = both (ltb v (2 ^ k)) (fit ks vs) h in
    (ltb-true v (2 ^ k) first, fit_true ks vs rest)

pub true_fit : (ks vs : List ℕ) → Fit ks vs → fit ks vs ≡ true
true_fit [] [] h = refl
true_fit [] (v ∷ vs) h = absurd h
true_fit (k ∷ ks) [] h = absurd h
true_fit (k ∷ ks) (v ∷ vs) h = rw (lt-ltb v (2 ^ k) h.0, true_fit ks vs h.1)

-- ---- masks, and the ones under them

-- all k bits of a marked field, none of another
abbrev pub filled : Bool → ℕ → ℕ
filled marked k = cond marked (2 ^ k - 1) 0

-- the bits of the marked fields
abbrev pub mask : List ℕ → List Bool → ℕ
mask [] marks = 0
mask (k ∷ ks) [] = 0
mask (k ∷ ks) (b ∷ marks) = filled b k * 2 ^ total ks + mask ks marks

-- the marked values
abbrev pub chosen : List Bool → List ℕ → List ℕ
chosen [] vs = []
chosen (b ∷ marks) [] = []
chosen (b ∷ marks) (v ∷ vs) = cond b (v ∷ chosen marks vs) (chosen marks vs)

filled_lt : (b : Bool) (k : ℕ) → filled b k < 2 ^ k
filled_lt true k = ones_lt k
filled_lt false k = pow_pos k

mask_lt : (ks : List ℕ) (marks : List Bool) → mask ks marks < 2 ^ total ks
mask_lt [] marks = zero-lt-suc 0
mask_lt (k ∷ ks) [] = pow_pos (k + total ks)
mask_lt (k ∷ ks) (b ∷ marks) =
    subst (λ (x : ℕ). filled b k * 2 ^ total ks + mask ks marks < x) (sym (pow-add 2 k (total ks))) (digits_lt (filled_lt b k) (mask_lt ks marks))

ones_zero : ones 0 ≡ 0
unfolding ones
ones_zero = refl

none_under : (n : ℕ) → ones (bit_and n 0) ≡ 0
none_under n = ap ones (and_zero_r n) ∙ ones_zero

-- the ones of one field under its mask, before those of the rest
head_ones : (b : Bool) (k m : ℕ) (vs : List ℕ) → ones (bit_and m (filled b k)) + ones_of vs ≡ ones_of (cond b (m % 2 ^ k ∷ vs) vs)
head_ones true k m vs = ap (λ (x : ℕ). ones x + ones_of vs) (and_mask m k)
head_ones false k m vs = ap (λ (x : ℕ). x + ones_of vs) (none_under m) ∙ zero-add (ones_of vs)

-- the ones of a number under a mask of fields are the ones of those fields
pub ones_mask : (ks : List ℕ) (marks : List Bool) (n : ℕ) → ones (bit_and n (mask ks marks)) ≡ ones_of (chosen marks (parts ks n))
ones_mask [] [] n = none_under n
ones_mask [] (b ∷ marks) n = none_under n
ones_mask (k ∷ ks) [] n = none_under n
ones_mask (k ∷ ks) (b ∷ marks) n =
    let t : ℕ = total ks in
    let a : ℕ = bit_and (n / 2 ^ t) (filled b k) in
    let r : ℕ = bit_and (n % 2 ^ t) (mask ks marks) in
    let l : n % 2 ^ t < 2 ^ t = mod-lt n (pow_pos t) in
    ap (λ (x : ℕ). ones (bit_and x (mask (k ∷ ks) (b ∷ marks)))) (sym (split n t))
    ∙ ap ones (and_block t (n / 2 ^ t) (filled b k) (n % 2 ^ t) (mask ks marks) l (mask_lt ks marks))
    ∙ ones_cat t a r (lt_of_le_of_lt (and_le_l (n % 2 ^ t) (mask ks marks)) l)
    ∙ ap (λ (x : ℕ). ones a + x) (ones_mask ks marks (n % 2 ^ t) ∙ ap (λ (q : List ℕ). ones_of (chosen marks q)) (parts_low ks n))
    ∙ head_ones b k (n / 2 ^ t) (chosen marks (parts ks n))
