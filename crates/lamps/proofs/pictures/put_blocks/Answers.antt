-- One block a turn: the front that is put, and the blocks that are left. Assumes nothing.
use Prim.Native.Nat.{min}
use mathlib.Core.Logic.{⊎_elim}
use mathlib.Core.Path.{◌≡◌, refl, ap, ◌∙◌}
use mathlib.Core.List.{[]}
use native.Mathlib.Omega.{arith}
use lib.ListN.{length, length-append}
use Rattle.lamps.specs.Rows.{block_bytes, blocks_bytes}
use Rattle.lamps.proofs.Chain.{then, room_for, fits_past, finished_past}
use Rattle.lamps.proofs.Rows.{blocks_step, no_blocks, length_block}
use Rattle.lamps.proofs.pictures.put_blocks.Goals as goal

pub put_block-next-requires : goal.put_block-next-requires
put_block-next-requires c =
    let l = c.loop-block in
    let a = c.args in
    let steps = c.in-Some.ensures.steps in
    let rs = c.in-Some.block.now in
    let xs = c.in-Some.part.now in
    let eight = ap (λ n. min n (length l.block-iterator.a.rest.now)) l.invariant.0 in
    let bytes = ap (λ n. min n (length l.block-iterator.b.rest.now)) l.invariant.1 in
    let step = blocks_step _ rs c.next.new.self.a.rest.now _ xs c.next.new.self.b.rest.now steps.0.1.0 (steps.0.1.1 ∙ eight) steps.1.1.0 (steps.1.1.1 ∙ bytes) steps.1.1.2 in
    let room = room_for l.invariant.3 (block_bytes rs xs) _ step (fits_past (blocks_bytes a.rows.now a.bytes.now) a.room.now a.at c.requires.room_len) in
    omega (arith, room, length_block rs xs)

pub loop-block-preserved : goal.loop-block-preserved
loop-block-preserved c =
    let l = c.loop-block in
    let a = c.args in
    let steps = c.in-Some.ensures.steps in
    let rs = c.in-Some.block.now in
    let xs = c.in-Some.part.now in
    let rs' = c.next.new.self.a.rest.now in
    let xs' = c.next.new.self.b.rest.now in
    let eight = ap (λ n. min n (length l.block-iterator.a.rest.now)) l.invariant.0 in
    let bytes = ap (λ n. min n (length l.block-iterator.b.rest.now)) l.invariant.1 in
    let step = blocks_step _ rs rs' _ xs xs' steps.0.1.0 (steps.0.1.1 ∙ eight) steps.1.1.0 (steps.1.1.1 ∙ bytes) steps.1.1.2 in
    let left : length rs' ≡ length xs' = omega (arith, l.invariant.2, ap length steps.0.1.0, ap length steps.1.1.0, length-append rs rs', length-append xs xs', steps.0.1.1 ∙ eight, steps.1.1.1 ∙ bytes) in
    let put = then l.invariant.3 (block_bytes rs xs) (blocks_bytes rs' xs') step refl c.put_block-next.ensures (fits_past (blocks_bytes a.rows.now a.bytes.now) a.room.now a.at c.requires.room_len) in
    (steps.0.0 ∙ l.invariant.0, steps.1.0 ∙ l.invariant.1, left, put)

pub returns : goal.returns
returns c =
    let l = c.loop-block in
    let a = c.args in
    let rs = l.block-iterator.a.rest.now in
    let xs = l.block-iterator.b.rest.now in
    let none : blocks_bytes rs xs ≡ [] = ⊎_elim (λ q. no_blocks rs xs (omega (arith, q.1.1.0, l.invariant.2))) (λ q. no_blocks rs xs q.1.1.0) c.in-None.ensures.steps in
    finished_past (blocks_bytes a.rows.now a.bytes.now) a.room.now a.at (omega (arith, c.requires)) (rw none at l.invariant.3)
