-- Digits in bytes and back, and what the table of signs says of each digit. Assumes nothing.
use Prim.Native.Nat.{ℕ, zero, suc, ◌+◌, ◌*◌, ◌<◌}
use mathlib.Core.Path.{◌≡◌, refl, sym, ap, ap₂, ◌∙◌}
use mathlib.Core.Bool.{Bool, true, false, not, ◌&&◌, ◌||◌}
use mathlib.Core.List.{List, [], ◌∷◌, ◌++◌}
use native.Mathlib.Omega.{arith}
use borrow.Author.Tests.{ne_eqb}
use lib.Dec.{eqb, ltb, lit<}
use lib.IntN.{ℤ, pos, negsuc, nat_abs}
use lib.ListN.{length, get_or, take, drop, take-append-drop}
use lib.Seq.{drop-cons, drop-length, length-take-le}
use Rattle.digits.specs.Digits.{high, low, digits}
use Rattle.digits.specs.Packed.{digits_in, in_bytes, sign_of, is_minus, is_none, preferred, signed, below_zero, size_in, sign_in, signed_bytes}
use Rattle.digits.proofs.Table.{Below, alike}
use Rattle.digits.proofs.Tens.{last_tens}

-- ---- digits in bytes

pub length_digits_in : (bs : List ℕ) → length (digits_in bs) ≡ 2 * length bs
length_digits_in [] = refl
length_digits_in (b ∷ bs) = let e = length_digits_in bs in omega arith

-- the digits of one byte
pub high_in : (bs : List ℕ) (i : ℕ) → get_or (digits_in bs) (2 * i) 0 ≡ high (get_or bs i 0)
high_in [] i = refl
high_in (b ∷ bs) zero = refl
high_in (b ∷ bs) (suc i) = let e : 2 * suc i ≡ suc (suc (2 * i)) = omega arith in rw e (high_in bs i)

pub low_in : (bs : List ℕ) (i : ℕ) → get_or (digits_in bs) (2 * i + 1) 0 ≡ low (get_or bs i 0)
low_in [] i = refl
low_in (b ∷ bs) zero = refl
low_in (b ∷ bs) (suc i) = let e : 2 * suc i + 1 ≡ suc (suc (2 * i + 1)) = omega arith in rw e (low_in bs i)

pub bytes_digits : (bs : List ℕ) → in_bytes (digits_in bs) ≡ bs
bytes_digits [] = refl
bytes_digits (b ∷ bs) = let e : digits (high b) (low b) ≡ b = omega arith in ap₂ (λ (x : ℕ) (l : List ℕ). x ∷ l) e (bytes_digits bs)

-- of an even number of digits
pub digits_bytes : (k : ℕ) (ds : List ℕ) → length ds ≡ 2 * k → Below 16 ds → digits_in (in_bytes ds) ≡ ds
digits_bytes k [] e b = refl
digits_bytes k (h ∷ []) e b = absurd (omega arith)
digits_bytes zero (h ∷ l ∷ ds) e b = absurd (omega arith)
digits_bytes (suc k) (h ∷ l ∷ ds) e b =
    let small = b.1.0 in
    let x : high (digits h l) ≡ h = omega arith in
    let y : low (digits h l) ≡ l = omega arith in
    rw (x, y, digits_bytes k ds (omega arith) b.1.1)

-- they are bytes
pub bytes_below : (ds : List ℕ) → Below 16 ds → Below 256 (in_bytes ds)
bytes_below [] b = tt
bytes_below (h ∷ []) b = tt
bytes_below (h ∷ l ∷ ds) b = let x = b.0 in let y = b.1.0 in (omega arith, bytes_below ds b.1.1)

pub bytes_append : (k : ℕ) (xs ys : List ℕ) → length xs ≡ 2 * k → in_bytes (xs ++ ys) ≡ in_bytes xs ++ in_bytes ys
bytes_append k [] ys e = refl
bytes_append k (h ∷ []) ys e = absurd (omega arith)
bytes_append zero (h ∷ l ∷ xs) ys e = absurd (omega arith)
bytes_append (suc k) (h ∷ l ∷ xs) ys e = ap (λ (r : List ℕ). digits h l ∷ r) (bytes_append k xs ys (omega arith))

-- one byte more
pub digits_snoc : (bs : List ℕ) (b : ℕ) → digits_in (bs ++ (b ∷ [])) ≡ digits_in bs ++ (high b ∷ low b ∷ [])
digits_snoc [] b = refl
digits_snoc (x ∷ bs) b = ap (λ (ds : List ℕ). high x ∷ low x ∷ ds) (digits_snoc bs b)

-- ---- signs

-- B and D are minus
pub minus_digits : (d : ℕ) → d < 16 → is_minus (sign_of d) ≡ (eqb d 11 || eqb d 13)
minus_digits d h = alike 16 (λ i. is_minus (sign_of i)) (λ i. eqb i 11 || eqb i 13) tt d h

-- a digit below A is no sign, and every other is one
pub none_digits : (d : ℕ) → d < 16 → is_none (sign_of d) ≡ ltb d 10
none_digits d h = alike 16 (λ i. is_none (sign_of i)) (λ i. ltb i 10) tt d h

-- the sign that is written is one, and says what it was written for
pub preferred_is : (minus : Bool) → (is_minus (sign_of (preferred minus)) ≡ minus) × (is_none (sign_of (preferred minus)) ≡ false) × (preferred minus < 16)
preferred_is true = (refl, refl, lit< tt)
preferred_is false = (refl, refl, lit< tt)

-- ---- whole numbers

pub size_signed : (minus : Bool) (n : ℕ) → nat_abs (signed minus n) ≡ n
size_signed true zero = refl
size_signed true (suc n) = refl
size_signed false n = refl

-- a number is that of its sign and size
pub signed_size : (z : ℤ) → signed (below_zero z) (nat_abs z) ≡ z
signed_size (pos n) = refl
signed_size (negsuc n) = refl

pub below_signed : (minus : Bool) (n : ℕ) → below_zero (signed minus n) ≡ not (eqb n 0) && minus
below_signed true zero = refl
below_signed true (suc n) = ap (λ (z : Bool). not z && true) (sym (ne_eqb (suc n) 0 (λ e. omega arith)))
below_signed false zero = refl
below_signed false (suc n) = ap (λ (z : Bool). not z && false) (sym (ne_eqb (suc n) 0 (λ e. omega arith)))

-- ---- a field of an odd number of digits and a sign

-- is that of its digits and its sign
pub read_back : (n : ℕ) (field : List ℕ) → length field ≡ suc n → Below 10 (take (2 * n + 1) (digits_in field))
    → field ≡ signed_bytes (2 * n + 1) (size_in (2 * n + 1) field) (sign_in (2 * n + 1) field)
read_back n field e b =
    let k : ℕ = 2 * n + 1 in
    let ds : List ℕ = digits_in field in
    let all : length ds ≡ suc k = length_digits_in field ∙ rw e (omega arith) in
    let past : drop (suc k) ds ≡ [] = rw all at (drop-length ds) in
    let last : drop k ds ≡ sign_in k field ∷ [] = drop-cons ds k 0 (omega arith) ∙ ap (λ (l : List ℕ). sign_in k field ∷ l) past in
    sym (bytes_digits field)
    ∙ ap in_bytes (sym (take-append-drop k ds) ∙ ap (λ (l : List ℕ). take k ds ++ l) last)
    ∙ ap (λ (l : List ℕ). in_bytes (l ++ (sign_in k field ∷ []))) (sym (last_tens k (take k ds) (length-take-le k ds (omega arith)) b))
