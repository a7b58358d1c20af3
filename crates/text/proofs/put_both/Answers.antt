-- The first text, then the second after it. Assumes nothing.
use Prim.Native.Nat.{◌+◌}
use mathlib.Core.Path.{sym, ◌∙◌}
use mathlib.Core.List.{◌++◌, append_assoc}
use native.Mathlib.Nat.{add-sub_cancel_left}
use native.Mathlib.Omega.{arith}
use lib.ListN.{length, drop, length-append}
use lib.Seq.{drop-drop, take-append_seam, drop-append_seam}
use Rattle.text.proofs.Texts.{too_small, fits}
use Rattle.text.proofs.put_both.Goals as goal

pub returns-then-room-end : goal.returns-then-room-end
returns-then-room-end c =
    let a = c.args in
    too_small (a.first.now ++ a.second.now) a.room.now (rw (length-append a.first.now a.second.now) c.if-room-end.true)

pub returns : goal.returns
returns c =
    let a = c.args in
    let first = a.first.now in
    let second = a.second.now in
    let old = a.room.now in
    let r = rw (length-append first second) at (fits (first ++ second) old (rw (length-append first second) (omega arith))) in
    rw (c.copy_from_slice.ensures.after, c.copy_from_slice-2.ensures.after, add-sub_cancel_left (length first) (length second), take-append_seam first (drop (length first) old), drop-append_seam first (drop (length first) old), drop-drop (length second) (length first) old)
    (r.0, sym (append_assoc first second (drop (length first + length second) old)) ∙ r.1)
