-- 19, or one byte a turn: the front that is put, and the bytes that are left. Assumes nothing.
use Prim.Native.Nat.{◌+◌, ◌-◌, ◌*◌}
use mathlib.Core.Path.{◌≡◌, refl, ap, ◌∙◌}
use native.Mathlib.Nat.{add-sub_cancel_left}
use native.Mathlib.Omega.{arith}
use lib.ListN.{length, get_or, take, drop, length-take, length-drop, drop_of_length-le}
use Rattle.digits.proofs.Lists.{joined_step}
use Rattle.digits.proofs.Puts.{put_turn, put_all}
use Rattle.text.specs.Text.{hexadecimal, field_digits}
use Rattle.text.proofs.Texts.{too_small, fits, length_digits}
use Rattle.text.proofs.put_digits.Goals as goal

pub returns-then-room-field : goal.returns-then-room-field
returns-then-room-field c =
    let a = c.args in
    too_small (field_digits a.field.now) a.room.now (omega (arith, length_digits a.field.now, c.if-room-field.true))

pub loop-i-preserved : goal.loop-i-preserved
loop-i-preserved c =
    let l = c.loop-i in
    let a = c.args in
    let field = a.field.now in
    let inside = c.loop-i-test.true in
    let at = 2 * l.i in
    let k : at + 2 - at ≡ 2 = add-sub_cancel_left at 2 in
    let next : 2 * (l.i + 1) ≡ at + 2 = omega arith in
    let new = hexadecimal 2 (get_or field l.i 0) in
    let two : length (take (at + 2 - at) (drop at l.room)) ≡ 2 = rw (k, length-take 2 (drop at l.room), length-drop at l.room) (omega (arith, inside, c.if-room-field.false, l.invariant.same)) in
    let put = (rw two at c.put_hexadecimal.ensures) ∙ ap (hexadecimal 2) c.from.ensures in
    rw (k, next) (put_turn l.invariant new _ _ 2 (joined_step (hexadecimal 2) field 0 l.i inside) refl put (omega (arith, length_digits field)))

pub returns : goal.returns
returns c =
    let l = c.loop-i in
    let a = c.args in
    let field = a.field.now in
    let done = put_all (rw (drop_of_length-le field {i = l.i} (omega arith)) at l.invariant) in
    let r = fits (field_digits field) a.room.now (omega (arith, length_digits field)) in
    (rw (← length_digits field) r.0, done ∙ r.1)
