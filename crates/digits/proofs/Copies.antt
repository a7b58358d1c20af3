-- The laws of a copy, element by element. Assumes nothing.
use Prim.Native.Nat.{ℕ, suc, ◌+◌, ◌-◌, ◌<◌, ◌≤◌}
use mathlib.Core.Path.{◌≡◌, ap, ◌∙◌}
use mathlib.Core.List.{List, ◌++◌, append-nil}
use native.Mathlib.Nat.{zero-add, add-sub_cancel_left}
use native.Mathlib.Numerals.{add-one}
use lib.ListN.{length, get_or, set, take, drop, length-drop, drop_of_length-le}
use lib.Seq.{paste-suc, take_all, length-take-le}
use native.Mathlib.Omega.{arith}
use Rattle.digits.specs.Lent.{over, copied}

-- a store at the end of a copy
pub copy_step : (from to : List ℕ) (i v : ℕ) → i < length from → i < length to → v ≡ get_or from i 0
    → set (take i from ++ drop i to) i v ≡ take (i + 1) from ++ drop (i + 1) to
copy_step from to i v h k e = rw (e, add-one) (rw (zero-add i, zero-add (suc i)) at (paste-suc to 0 from i 0 (rw zero-add k) h))

-- where there is room for all of it
pub copied_all : (from to : List ℕ) → length from ≤ length to → copied from to ≡ over from to
copied_all from to h = ap (λ (l : List ℕ). over l to) (take_all (length to) from h)

-- a new list that fills the old
pub over_full : (new old : List ℕ) → length old ≤ length new → over new old ≡ new
over_full new old h = rw (drop_of_length-le old h) (append-nil new)

-- and no more
pub copied_full : (from to : List ℕ) → length to ≡ length from → copied from to ≡ from
copied_full from to e = copied_all from to (omega arith) ∙ over_full from to (omega arith)

-- into the part of a room that is lent for it
pub copied_part : (at : ℕ) (new w : List ℕ) {x : List ℕ} → at + length new ≤ length w → x ≡ copied new (take (at + length new - at) (drop at w)) → x ≡ new
copied_part at new w h e =
    let k : at + length new - at ≡ length new = add-sub_cancel_left at (length new) in
    (rw k at e) ∙ copied_full new (take (length new) (drop at w)) (length-take-le (length new) (drop at w) (omega (arith, length-drop at w)))
