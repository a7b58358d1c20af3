-- 19, or the text. Assumes nothing.
use native.Mathlib.Omega.{arith}
use Rattle.text.proofs.Texts.{too_small, fits}
use Rattle.text.proofs.put.Goals as goal

pub returns-then-room-text : goal.returns-then-room-text
returns-then-room-text c = too_small _ _ c.if-room-text.true

pub returns : goal.returns
returns c = rw c.copy_from_slice.ensures.after (fits c.args.text.now c.args.room.now (omega arith))
