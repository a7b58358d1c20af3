-- The spaces, and then the digits. Assumes nothing.
use Prim.Native.Nat.{◌+◌, ◌-◌, ◌≤◌}
use mathlib.Core.Path.{◌≡◌, refl, sym, ap, ◌∙◌}
use mathlib.Core.List.{[], append-nil}
use native.Mathlib.Nat.{add-sub_cancel_left}
use native.Mathlib.Omega.{arith}
use lib.ListN.{length, replicate, length-replicate}
use Rattle.digits.proofs.Puts.{put_from, put_turn}
use Rattle.text.specs.Text.{hexadecimal}
use Rattle.lamps.specs.Columns.{cell}
use Rattle.lamps.proofs.Cells.{length_hexadecimal, length_cell, length_part}
use Rattle.lamps.proofs.Chain.{fits_past, finished_past}
use Rattle.lamps.proofs.columns.put_cell.Goals as goal

pub returns : goal.returns
returns c =
    let a = c.args in
    let old = a.room.now in
    let b = a.before in
    let d = a.digits in
    let from = a.at + b in
    let whole = cell b d a.byte in
    let size = length_cell b d a.byte in
    let inside : a.at + length whole ≤ length old = omega (arith, size, c.requires) in
    let fits = fits_past whole old a.at inside in
    let front : a.at + b - a.at ≡ b = add-sub_cancel_left a.at b in
    let back : a.at + b + d - (a.at + b) ≡ d = add-sub_cancel_left from d in
    let none = put_from whole old a.at (omega (arith, inside)) in
    let spaces = c.put_spaces.ensures ∙ ap (λ n. replicate n 32) (length_part a.at b old (omega (arith, c.requires))) in
    let one = put_turn none (replicate b 32) (hexadecimal d a.byte) _ b refl (length-replicate b 32) spaces fits in
    let digits = (rw front at c.put_hexadecimal.ensures) ∙ ap (λ n. hexadecimal n a.byte) (length_part from d _ (omega (arith, c.requires, one.same))) in
    let two = put_turn one (hexadecimal d a.byte) [] _ d (sym (append-nil _)) (length_hexadecimal d a.byte) digits fits in
    rw (front, back) (finished_past whole old a.at (omega (arith, inside)) two)
