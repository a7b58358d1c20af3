-- 19, or every line. Assumes nothing.
use Prim.Native.Nat.{◌*◌, ◌<◌, ◌≤◌}
use mathlib.Core.Path.{◌∙◌}
use native.Mathlib.Omega.{arith}
use lib.ListN.{length}
use Rattle.listing.specs.Listing.{lines_of}
use Rattle.text.proofs.Texts.{too_small, fits}
use Rattle.listing.proofs.Texts.{length_lines}
use Rattle.listing.proofs.list.Goals as goal

pub returns-then-room-words : goal.returns-then-room-words
returns-then-room-words c =
    let a = c.args in
    let h : length a.room.now < 19 * length a.words.now = omega arith in
    too_small (lines_of a.words.now) a.room.now (rw (length_lines a.words.now) h)

pub returns : goal.returns
returns c =
    let a = c.args in
    let ws = a.words.now in
    let h : 19 * length ws ≤ length a.room.now = omega arith in
    let r = fits (lines_of ws) a.room.now (rw (length_lines ws) h) in
    (rw (← length_lines ws) r.0, c.put_lines.ensures ∙ r.1)
