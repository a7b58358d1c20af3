-- One block a turn: the front that is put, and the bytes of the blocks that are left. Assumes nothing.
use Rattle.std.proofs.Common.{◌≡◌, ◌+◌, ◌-◌, ◌*◌, ◌<◌, length, drop, ap, ◌∙◌, arith, length-drop, drop_of_length-le}
use native.Mathlib.Nat.{add-sub_cancel_left}
use lib.Seq.{drop-drop}
use Rattle.digits.specs.Lists.{pieces}
use Rattle.deck.specs.Deck.{bytes_of, block_of, block_count, blocks_for, deck_of}
use Rattle.digits.proofs.Lists.{length_pieces}
use Rattle.digits.proofs.Puts.{put_none, put_turn, put_all}
use Rattle.deck.proofs.Written.{words_at, length_at, rest_step, cut, length_block_bytes, length_deck}
use Rattle.deck.proofs.put_deck.Goals as goal

pub loop-b-init : goal.loop-b-init
unfolding deck_of blocks_for
loop-b-init c =
    let e = c.enumerate-b-items.ensures in
    rw (c.into_iter-b-iterator.ensures.into_iter_gives, e.source, e.count) (c.chunks.ensures.size, c.chunks.ensures.rest, put_none (deck_of c.args.words.now) c.args.deck.now)

pub loop-b-preserved : goal.loop-b-preserved
loop-b-preserved c =
    let l = c.loop-b in
    let f = c.put_block in
    let ws = c.args.words.now in
    let n = l.b-iterator.count in
    let s = c.in-Some.ensures.steps in
    let (size, left, put) = l.invariant in
    let at = n * 512 in
    let new = bytes_of (block_of n (words_at ws n)) in
    let part = cut 62 (drop (n * 62) ws) c.in-Some.block.now c.next.new.self.iter.rest.now (rw left at s.0.1.0) (rw (size, left) at s.0.1.1) in
    let h : 0 < length (drop (n * 62) ws) = rw left at s.0.1.2 in
    let d = length-drop (n * 62) ws in
    let k : at + 512 - at ≡ 512 = add-sub_cancel_left at 512 in
    let next : (n + 1) * 512 ≡ at + 512 = omega arith in
    let on : (n + 1) * 62 ≡ n * 62 + 62 = omega arith in
    let x : f.new.out ≡ new = f.ensures ∙ ap bytes_of (c.block_of.ensures ∙ rw (s.1, part.0)) in
    let m = length_block_bytes n (words_at ws n) (length_at ws n) in
    let turn = put_turn put new _ f.new.out 512 (rest_step ws (block_count (length ws)) n (omega arith)) m x (omega (arith, length_deck ws, c.requires)) in
    rw (s.1, s.2) (s.0.0 ∙ size, part.1 ∙ drop-drop 62 (n * 62) ws ∙ rw on, rw (k, next) turn)

pub returns : goal.returns
returns c =
    let l = c.loop-b in
    let ws = c.args.words.now in
    let n = l.b-iterator.count in
    let (_, left, put) = l.invariant in
    let none = rw left at c.in-None.ensures.steps.0.1.0 in
    let d = length-drop (n * 62) ws in
    put_all (rw (drop_of_length-le (pieces 62 (block_count (length ws)) ws) {i = n} (rw length_pieces (omega arith))) at put)
