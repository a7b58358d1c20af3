-- One block a turn: the front that is put, and the blocks that are left. Assumes nothing.
use mathlib.Core.Path.{◌≡◌}
use mathlib.Core.List.{◌++◌}
use lib.ListN.{length, take}
use Rattle.digits.proofs.Puts.{Put}
use Rattle.lamps.specs.Rows.{blocks_bytes}
use Rattle.lamps.proofs.pictures.put_blocks.Given as goal

abbrev pub invariant-loop-block : goal.invariant-loop-block
invariant-loop-block l =
    (l.block-iterator.a.size ≡ 8) × (l.block-iterator.b.size ≡ 8) × (length l.block-iterator.a.rest.now ≡ length l.block-iterator.b.rest.now)
    × Put (take l.at l.initial.room ++ blocks_bytes l.rows l.bytes) l.initial.room (blocks_bytes l.block-iterator.a.rest.now l.block-iterator.b.rest.now) l.room l.next
