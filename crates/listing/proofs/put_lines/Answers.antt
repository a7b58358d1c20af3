-- One line a turn: the front that is put, and the lines that are left. Assumes nothing.
use Prim.Native.Nat.{◌+◌, ◌-◌, ◌*◌}
use mathlib.Core.Path.{◌≡◌, ◌∙◌}
use native.Mathlib.Nat.{add-sub_cancel_left}
use native.Mathlib.Omega.{arith}
use lib.ListN.{get_or}
use Rattle.digits.proofs.Puts.{put_none, put_turn}
use Rattle.listing.specs.Listing.{text_line, lines_of}
use Rattle.listing.proofs.Texts.{length_line, length_lines, rest_step}
use Rattle.listing.proofs.put_lines.Goals as goal

pub loop-i-init : goal.loop-i-init
unfolding lines_of
loop-i-init c = put_none (lines_of c.args.words.now) c.args.text.now

pub loop-i-preserved : goal.loop-i-preserved
loop-i-preserved c =
    let l = c.loop-i in
    let ws = c.args.words.now in
    let at = 19 * l.i in
    let k : at + 19 - at ≡ 19 = add-sub_cancel_left at 19 in
    let next : 19 * (l.i + 1) ≡ at + 19 = omega arith in
    let new = c.copy_from_slice.ensures.after ∙ c.line.ensures in
    rw (k, next) (put_turn l.invariant (text_line l.i (get_or ws l.i 0)) _ _ 19 (rest_step ws l.i c.loop-i-test.true) (length_line _ _) new (omega (arith, length_lines ws)))
