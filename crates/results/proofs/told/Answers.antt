-- 19, or the three pieces. Assumes nothing.
use Prim.Native.Nat.{◌+◌, ◌-◌, ◌*◌, ◌≤◌}
use mathlib.Core.Path.{◌≡◌, refl, sym, ◌∙◌}
use mathlib.Core.List.{[], ◌++◌, append-nil}
use native.Mathlib.Nat.{add-sub_cancel_left}
use native.Mathlib.Omega.{arith}
use lib.ListN.{length, length-take, length-drop}
use Rattle.digits.proofs.Copies.{copied_all}
use Rattle.digits.proofs.Puts.{Put, put_turn, put_copy, put_all, put_size}
use Rattle.text.specs.Ascii.{ascii}
use Rattle.text.specs.Text.{field_digits}
use Rattle.text.proofs.Texts.{too_small, fills, fits, length_digits}
use Rattle.results.specs.Results.{told_of}
use Rattle.results.proofs.Lines.{length_told}
use Rattle.results.proofs.told.Goals as goal

pub returns-then-room-others : goal.returns-then-room-others
returns-then-room-others c =
    let a = c.args in
    too_small (told_of a.field.now a.end.now) a.room.now (omega (arith, length_told a.field.now a.end.now, c.if-room-others.true))

pub returns-then-room-others-2 : goal.returns-then-room-others-2
returns-then-room-others-2 c =
    let a = c.args in
    too_small (told_of a.field.now a.end.now) a.room.now (omega (arith, length_told a.field.now a.end.now, c.if-room-others.false, c.if-room-others-2.true))

pub returns : goal.returns
unfolding told_of
returns c =
    let a = c.args in
    let field = a.field.now in
    let end = a.end.now in
    let old = a.room.now in
    let n = 2 * length field in
    let whole = told_of field end in
    let h : length whole ≤ length old = omega (arith, length_told field end, c.if-room-others.false, c.if-room-others-2.false) in
    let k : 3 + n - 3 ≡ n = add-sub_cancel_left 3 n in
    let p : Put whole old (field_digits field ++ end) c.copy.new.to 3 =
    record { front = ascii " = "; place = refl; split = refl; stands = c.copy.ensures ∙ copied_all (ascii " = ") old (omega (arith, h)); same = c.copy.auto.to } in
    let p = put_turn p (field_digits field) end _ n refl (length_digits field) (c.put_digits.ensures.1 ∙ fills (field_digits field) _ (rw (k, length_digits field, length-take, length-drop) (omega (arith, h, length_told field end, p.same)))) h in
    let p = put_copy p end [] (sym (append-nil end)) (rw k at c.copy-2.ensures) h in
    let r = fits whole old h in
    (rw (put_size p) r.0, rw k (put_all p ∙ r.1))
