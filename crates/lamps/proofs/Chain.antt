-- Pieces of text one after the other, and the whole that they make in a room. Assumes nothing.
use Prim.Native.Nat.{ℕ, ◌+◌, ◌-◌, ◌≤◌}
use mathlib.Core.Path.{◌≡◌, ap, ◌∙◌}
use mathlib.Core.List.{List, [], ◌++◌}
use native.Mathlib.Omega.{arith}
use Rattle.std.specs.Prelude.{Ok}
use lib.ListN.{length, take, drop, length-append}
use lib.Seq.{length-take-le, take-append_seam}
use Rattle.digits.specs.Lent.{over, over_at}
use Rattle.digits.proofs.Puts.{Put, put_next, put_room, put_all, put_size, put_at}
use Rattle.text.specs.Text.{put_of, room_after}
use Rattle.text.proofs.Texts.{fits}

-- one piece more: what a call put is the piece
pub then : {whole old rest w : List ℕ} {at : ℕ} → Put whole old rest w at → (new left : List ℕ) {t w' : List ℕ} {at' : ℕ} → rest ≡ new ++ left → t ≡ new → (at' ≡ at + length t) × (w' ≡ over_at at t w)
    → length whole ≤ length old → Put whole old left w' at'
then {w = w} {at = at} p new left {t} {w'} {at'} r e (a, x) h =
    put_next p new left w' at' r (x ∙ ap (λ (y : List ℕ). over_at at y w) e) (a ∙ ap (λ (y : List ℕ). at + length y) e) h

-- there is room for the next piece
pub room_for : {whole old rest w : List ℕ} {at : ℕ} → Put whole old rest w at → (new left : List ℕ) → rest ≡ new ++ left → length whole ≤ length old → at + length new ≤ length w
room_for p new left r h = omega (arith, put_room p new left r, p.same, h)

-- all of them
pub finished : {whole old w : List ℕ} {at : ℕ} → Put whole old [] w at → length whole ≤ length old → (Ok at ≡ put_of whole (length old)) × (w ≡ room_after whole old)
finished {whole} {old} {w} {at} p h =
    let r = fits whole old h in
    (ap Ok (put_size p) ∙ r.0, put_all p ∙ r.1)

-- the same, where they go from a place on
pub fits_past : (whole old : List ℕ) (at : ℕ) → at + length whole ≤ length old → length (take at old ++ whole) ≤ length old
fits_past whole old at h = rw (length-append (take at old) whole, length-take-le at old (omega arith)) h

pub finished_past : (whole old : List ℕ) (at : ℕ) {w : List ℕ} {n : ℕ} → at ≤ length old → Put (take at old ++ whole) old [] w n → (n ≡ at + length whole) × (w ≡ over_at at whole old)
finished_past whole old at h p = (put_size p ∙ length-append (take at old) whole ∙ rw (length-take-le at old h), put_at whole old at h p)

-- the whole, as the code lends it from a room of its own
pub front : (whole old : List ℕ) {w : List ℕ} {n : ℕ} → (n ≡ length whole) × (w ≡ over whole old) → take (n - 0) w ≡ whole
front whole old {w} {n} (e, f) = let z : n - 0 ≡ n = omega arith in rw (z, f, e) (take-append_seam whole (drop (length whole) old))
