-- What is put over what was lent, piece by piece. Assumes nothing.
use Prim.Native.Nat.{ℕ, zero, suc, ◌+◌, ◌-◌, ◌<◌, ◌≤◌}
use mathlib.Core.Path.{◌≡◌, refl, sym, ap, subst₂, ◌∙◌}
use mathlib.Core.List.{List, [], ◌∷◌, ◌++◌, append_assoc, append-nil}
use native.Mathlib.Nat.{add-sub_cancel_left}
use native.Mathlib.Omega.{arith}
use lib.ListN.{length, take, drop, set, length-append, length-drop, length-set, take-append-drop}
use lib.Seq.{length-take-le, drop-cons, drop-drop, take-append_seam, drop-append_seam, get_or-set_same, drop-set-lt}
use Rattle.digits.specs.Lent.{over, over_at, copied}
use Rattle.digits.proofs.Copies.{copied_part}

-- a store in front of what is put: `all` is still to put before it, and `ds` after it
pub put_before : (ds all out : List ℕ) (i x : ℕ) → 0 < i → i ≤ length out → all ≡ ds ++ (x ∷ []) → ds ++ drop (i - 1) (set out (i - 1) x) ≡ all ++ drop i out
put_before ds all out zero x p h e = absurd (omega arith)
put_before ds all out (suc i) x p h e =
    let k : suc i - 1 ≡ i = omega arith in
    let l : i < length (set out i x) = rw length-set h in
    rw (k, e, drop-cons (set out i x) i 0 l, get_or-set_same out i x 0 h, drop-set-lt (suc i) out i x (omega arith)) (sym (append_assoc ds (x ∷ []) (drop (suc i) out)))

length_over : (new old : List ℕ) → length new ≤ length old → length (over new old) ≡ length old
length_over new old h = length-append new (drop (length new) old) ∙ rw (length-drop (length new) old) (omega arith)

-- how far a whole is put over what was there, when `rest` is left and `at` is where it goes
pub record Put (whole old rest w : List ℕ) (at : ℕ) : Type 0 where
  pub front : List ℕ
  pub place : at ≡ length front
  pub split : front ++ rest ≡ whole
  pub stands : w ≡ over front old
  pub same : length w ≡ length old

pub put_none : (whole old : List ℕ) → Put whole old whole old 0
put_none whole old = record { front = []; place = refl; split = refl; stands = refl; same = refl }

pub put_all : {whole old w : List ℕ} {at : ℕ} → Put whole old [] w at → w ≡ over whole old
put_all {old = old} p = p.stands ∙ ap (λ (l : List ℕ). over l old) (sym (append-nil p.front) ∙ p.split)

-- and the place is its length
pub put_size : {whole old w : List ℕ} {at : ℕ} → Put whole old [] w at → at ≡ length whole
put_size p = p.place ∙ ap length (sym (append-nil p.front) ∙ p.split)

-- there is room for the piece that is put next
pub put_room : {whole old rest w : List ℕ} {at : ℕ} → Put whole old rest w at → (new left : List ℕ) → rest ≡ new ++ left → at + length new ≤ length whole
put_room {rest = rest} p new left r =
    omega (arith, p.place, ap length p.split, length-append p.front rest, ap length r, length-append new left)

-- one piece more: k are lent at the place, and come back as `new`
pub put_turn : {whole old rest w : List ℕ} {at : ℕ} → Put whole old rest w at → (new left x : List ℕ) (k : ℕ) → rest ≡ new ++ left → length new ≡ k → x ≡ new → length whole ≤ length old
    → Put whole old left (take at w ++ (x ++ drop k (drop at w))) (at + k)
put_turn {whole} {old} {rest} {w} {at} p new left x k r n e h =
    let front = p.front in
    let split : (front ++ new) ++ left ≡ whole = append_assoc front new left ∙ ap (λ (l : List ℕ). front ++ l) (sym r) ∙ p.split in
    let place = length-append front new in
    let fits = ap length split in
    let rest-fits = length-append (front ++ new) left in
    let stands : take at w ++ (x ++ drop k (drop at w)) ≡ over (front ++ new) old =
    rw (e, ← n, p.stands, p.place, take-append_seam front (drop (length front) old), drop-append_seam front (drop (length front) old), drop-drop (length new) (length front) old, length-append front new)
    (sym (append_assoc front new (drop (length front + length new) old))) in
    let at-is = p.place in
    record { front = front ++ new; place = omega arith; split = split; stands = stands; same = ap length stands ∙ length_over (front ++ new) old (omega arith) }

-- the same, where the piece is copied into the part that it fills
pub put_copy : {whole old rest w : List ℕ} {at : ℕ} → Put whole old rest w at → (new left : List ℕ) {x : List ℕ} → rest ≡ new ++ left → x ≡ copied new (take (at + length new - at) (drop at w)) → length whole ≤ length old
    → Put whole old left (take at w ++ (x ++ drop (at + length new - at) (drop at w))) (at + length new)
put_copy {w = w} {at = at} p new left {x} r e h =
    rw (add-sub_cancel_left at (length new)) (put_turn p new left x (length new) r refl (copied_part at new w (omega (arith, put_room p new left r, p.same, h)) e) h)

-- the same, where the piece is put by itself
pub put_next : {whole old rest w : List ℕ} {at : ℕ} → Put whole old rest w at → (new left w' : List ℕ) (at' : ℕ) → rest ≡ new ++ left → w' ≡ over_at at new w → at' ≡ at + length new → length whole ≤ length old
    → Put whole old left w' at'
put_next {whole} {old} {rest} {w} {at} p new left w' at' r e a h =
    let q = put_turn p new left new (length new) r refl refl h in
    subst₂ (λ (x : List ℕ) (n : ℕ). Put whole old left x n) (sym e) (sym a) q

-- a whole that is put after what stands in front
pub put_from : (whole old : List ℕ) (at : ℕ) → at ≤ length old → Put (take at old ++ whole) old whole old at
put_from whole old at h =
    record {
      front = take at old;
      place = sym (length-take-le at old h);
      split = refl;
      stands = sym (rw (length-take-le at old h) (take-append-drop at old));
      same = refl;
    }

pub put_at : (whole old : List ℕ) (at : ℕ) {w : List ℕ} {n : ℕ} → at ≤ length old → Put (take at old ++ whole) old [] w n → w ≡ over_at at whole old
put_at whole old at h p =
    put_all p
    ∙ append_assoc (take at old) whole _
    ∙ ap (λ (l : List ℕ). take at old ++ (whole ++ l))
    (rw (length-append (take at old) whole, length-take-le at old h) (sym (drop-drop (length whole) at old)))
