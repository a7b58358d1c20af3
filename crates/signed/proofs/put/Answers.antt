-- From the last byte on: what is still to put, before what is put. Assumes nothing.
use Rattle.std.proofs.Common.{arith, ℕ, ap, ◌∙◌}
use Rattle.std.specs.Prelude.{◌+◌, ◌-◌, ◌*◌, ◌/◌, ◌%◌}
use mathlib.Core.List.{append-nil}
use lib.Seq.{drop-length}
use Rattle.digits.specs.Packed.{in_bytes}
use Rattle.digits.proofs.Puts.{put_before}
use Rattle.signed.specs.Signed.{signed_field}
use Rattle.signed.proofs.Fields.{ended, last_byte_lem}
use Rattle.signed.proofs.put.Goals as goal

-- all bytes are still to put
pub loop-i-init : goal.loop-i-init
unfolding signed_field
loop-i-init c = (c.requires.1, rw drop-length (append-nil _) ∙ ap (λ (i : ℕ). in_bytes (ended i c.args.size c.args.sign)) c.requires.0)

pub loop-i-preserved : goal.loop-i-preserved
loop-i-preserved c =
    let l = c.loop-i in
    let x = l.rest % 10 * 16 + l.low in
    let front = in_bytes (ended (l.i - 1) (l.rest / 100) (l.rest / 10 % 10)) in
    (omega arith, put_before front (in_bytes (ended l.i l.rest l.low)) l.field l.i x c.loop-i-test.true (omega (arith, l.auto.i, l.auto.field)) (last_byte_lem l.i l.rest l.low c.loop-i-test.true) ∙ l.invariant.1)
