-- The scan of the fields, row by row and code by code, finds what the paper's rows name. Assumes nothing.
use Prim.Native.Nat.{ℕ, zero, suc, ◌+◌, ◌≤◌, ◌<◌}
use mathlib.Core.Path.{◌≡◌, refl}
use mathlib.Core.List.{List, [], ◌∷◌, map}
use mathlib.Core.Bool.{Bool, true, false, not, ◌&&◌, or_self_left}
use native.Mathlib.Nat.{not-suc-le-zero, le_of_suc-le-suc}
use native.Mathlib.Numerals.{add-one}
use lib.Dec.{ltb, leb, eqb}
use lib.ListN.{length, get_or, drop, drop_of_length-le}
use Rattle.std.specs.Prelude.{Option, Some, None}
use Rattle.digits.specs.Refusal.{Check, first}
use Rattle.digits.specs.Table.{among, Each}
use Rattle.word.specs.declared.Fields.{Fields}
use Rattle.codes.specs.Reading.{is_basic}
use Rattle.codes.specs.Modelled.{unmodelled_of}
use Rattle.codes.specs.declared.Reading.{Reading}

-- ---- a row's codes, from one of them on

-- the row applies, and the code is among those from a place on
pub hit : Bool → ℕ → List ℕ → ℕ → Bool
hit applies code codes k = applies && among code (drop k codes)

next_code : (n : ℕ) (l : List ℕ) (k d : ℕ) → eqb n (get_or l k d) ≡ false → among n (drop (suc k) l) ≡ among n (drop k l)
next_code n [] zero d e = refl
next_code n [] (suc k) d e = refl
next_code n (x ∷ l) zero d e = rw e
next_code n (x ∷ l) (suc k) d e = next_code n l k d e

this_code : (n : ℕ) (l : List ℕ) (k d : ℕ) → k < length l → eqb n (get_or l k d) ≡ true → among n (drop k l) ≡ true
this_code n [] k d h e = absurd (not-suc-le-zero h)
this_code n (x ∷ l) zero d h e = rw e
this_code n (x ∷ l) (suc k) d h e = this_code n l k d (le_of_suc-le-suc h) e

pub hit_yes : (b : Bool) (n : ℕ) (l : List ℕ) (k d : ℕ) → k < length l → b && eqb n (get_or l k d) ≡ true → hit b n l k ≡ true
unfolding hit
hit_yes false n l k d h e = e
hit_yes true n l k d h e = this_code n l k d h e

pub hit_no : (b : Bool) (n : ℕ) (l : List ℕ) (k d : ℕ) → b && eqb n (get_or l k d) ≡ false → hit b n l (k + 1) ≡ hit b n l k
unfolding hit
hit_no false n l k d e = refl
hit_no true n l k d e = rw add-one (next_code n l k d e)

pub hit_end : (b : Bool) (n : ℕ) (l : List ℕ) (k : ℕ) → length l ≤ k → hit b n l k ≡ false
unfolding hit
hit_end false n l k h = refl
hit_end true n l k h = rw (drop_of_length-le l h)

-- ---- the rows, from one of them on

-- a field's place, whether the row applies, the field's code, and the codes that are not modelled
abbrev pub Row : Type 0
Row = ℕ × Bool × ℕ × List ℕ

abbrev check_of : Row → Check ℕ
check_of r = (r.0, r.1 && among r.2 r.3)

-- whether all of its codes have a hit
abbrev pub row_hit : Row → Bool
row_hit r = hit r.1 r.2 r.3 0

-- the place of the first row, from the given one on, that has its code
pub found : List Row → ℕ → Option ℕ
found rows row = first (map check_of (drop row rows))

next_row : (l : List Row) (i : ℕ) (d : Row) → i < length l → row_hit (get_or l i d) ≡ false → first (map check_of (drop (suc i) l)) ≡ first (map check_of (drop i l))
unfolding hit
next_row [] i d h e = absurd (not-suc-le-zero h)
next_row (r ∷ l) zero d h e = rw e
next_row (r ∷ l) (suc i) d h e = next_row l i d (le_of_suc-le-suc h) e

pub found_on : (l : List Row) (i : ℕ) (d : Row) → i < length l → row_hit (get_or l i d) ≡ false → found l (i + 1) ≡ found l i
unfolding found
found_on l i d h e = rw add-one (next_row l i d h e)

pub found_at : (l : List Row) (i : ℕ) (d : Row) → i < length l → row_hit (get_or l i d) ≡ true → Some (get_or l i d).0 ≡ found l i
unfolding found hit
found_at [] i d h e = absurd (not-suc-le-zero h)
found_at (r ∷ l) zero d h e = rw e
found_at (r ∷ l) (suc i) d h e = found_at l i d (le_of_suc-le-suc h) e

pub found_end : (l : List Row) (i : ℕ) → length l ≤ i → None ≡ found l i
unfolding found
found_end l i h = rw (drop_of_length-le l h)

-- ---- the rows as the scan has them

abbrev pub rows_of : Bool → Fields → List Row
rows_of basic f =
    (4, true, f.ch, 4 ∷ 5 ∷ 5 ∷ 5 ∷ 5 ∷ []) ∷
    (4, not basic, f.ch, 3 ∷ 3 ∷ 3 ∷ 3 ∷ 3 ∷ []) ∷
    (5, true, f.cl, 3 ∷ 15 ∷ 15 ∷ 15 ∷ 15 ∷ []) ∷
    (5, basic, f.cl, 4 ∷ 12 ∷ 12 ∷ 12 ∷ 12 ∷ []) ∷
    (6, true, f.cm, 6 ∷ 7 ∷ 7 ∷ 7 ∷ 7 ∷ []) ∷
    (7, ltb f.cm 3, f.cu, 1 ∷ 1 ∷ 1 ∷ 1 ∷ 1 ∷ []) ∷
    (7, leb 3 f.cm, f.cu, 2 ∷ 2 ∷ 2 ∷ 2 ∷ 2 ∷ []) ∷
    (8, not (eqb f.cl 2), f.ca, 0 ∷ 1 ∷ 2 ∷ 3 ∷ 6 ∷ []) ∷
    (9, true, f.aa, 1 ∷ 1 ∷ 1 ∷ 1 ∷ 1 ∷ []) ∷
    (12, true, f.ak, 1 ∷ 1 ∷ 1 ∷ 1 ∷ 1 ∷ []) ∷
    (15, true, f.cd, 1 ∷ 2 ∷ 3 ∷ 4 ∷ 4 ∷ []) ∷
    (20, true, f.cs, 14 ∷ 14 ∷ 14 ∷ 14 ∷ 14 ∷ []) ∷
    (20, basic, f.cs, 5 ∷ 15 ∷ 15 ∷ 15 ∷ 15 ∷ []) ∷
    (21, true, f.asb, 1 ∷ 1 ∷ 1 ∷ 1 ∷ 1 ∷ []) ∷
    []

all_five : (l : List Row) → Each (λ (r : Row). length r.3 ≡ 5) l → (i : ℕ) (d : Row) → i < length l → length (get_or l i d).3 ≡ 5
all_five [] e i d h = absurd (not-suc-le-zero h)
all_five (r ∷ l) e zero d h = e.0
all_five (r ∷ l) e (suc i) d h = all_five l e.1 i d (le_of_suc-le-suc h)

-- each has five codes
pub five : (basic : Bool) (f : Fields) (i : ℕ) (d : Row) → i < 14 → length (get_or (rows_of basic f) i d).3 ≡ 5
five basic f i d h =
    all_five (rows_of basic f)
    (refl, (refl, (refl, (refl, (refl, (refl, (refl, (refl, (refl, (refl, (refl, (refl, (refl, (refl, tt)))))))))))))) i d h

pub found_is : (reading : Reading) (f : Fields) → found (rows_of (is_basic reading) f) 0 ≡ unmodelled_of reading f
unfolding found unmodelled_of
found_is reading f = simp or_self_left

pub found_of : (reading : Reading) (f : Fields) (basic : Bool) → basic ≡ is_basic reading → found (rows_of basic f) 0 ≡ unmodelled_of reading f
found_of reading f basic is = rw is (found_is reading f)
