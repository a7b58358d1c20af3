-- One group a turn. Assumes nothing.
use Rattle.std.proofs.Common.{◌≡◌, ◌*◌, ◌/◌, ◌<◌, get_or, length, take, drop, sym, ◌∙◌, append-nil, arith, length-set, length-take, length-drop, take_all, []}
use Rattle.digits.proofs.Copies.{copy_step}
use Rattle.digits.proofs.Lists.{pieces_at}
use Rattle.deck.specs.Deck.{groups_of}
use Rattle.deck.proofs.Bytes.{chunks_are, number_be}
use Rattle.deck.proofs.Groups.{length_groups, groups_at}
use Rattle.deck.proofs.groups_of.Goals as goal

pub loop-i-preserved : goal.loop-i-preserved
loop-i-preserved c =
    let l = c.loop-i in
    let block = c.args.block.now in
    let h : l.i < 64 = omega (arith, c.as_chunks.ensures.front_len) in
    let e : get_or c.as_chunks.result.0.now l.i [] ≡ take 8 (drop (l.i * 8) block) =
    rw (c.as_chunks.ensures.front, chunks_are 8 (length block / 8) block) (pieces_at 8 (length block / 8) block l.i (omega arith)) in
    let n : length (take 8 (drop (l.i * 8) block)) ≡ 8 = simp (length-take, length-drop) (omega arith) in
    let v : c.from_be_bytes.result ≡ get_or (groups_of block) l.i 0 = c.from_be_bytes.ensures ∙ rw e (number_be _ n ∙ sym (groups_at block l.i h)) in
    (simp length-set l.invariant.0, rw l.invariant.1 (copy_step (groups_of block) _ l.i _ (omega (arith, length_groups block)) (omega arith) v))

pub returns : goal.returns
returns c =
    let l = c.loop-i in
    let block = c.args.block.now in
    let e : l.i ≡ 64 = omega (arith, c.as_chunks.ensures.front_len) in
    l.invariant.1 ∙ rw (e, take_all 64 (groups_of block) (omega (arith, length_groups block))) (append-nil _)
