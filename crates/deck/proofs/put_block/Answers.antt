-- One group a turn: the front that is put, and what is left of the groups. Assumes nothing.
use Rattle.std.proofs.Common.{◌≡◌, ◌+◌, ◌-◌, ◌*◌, get_or, refl, ◌∙◌, arith, drop_of_length-le}
use native.Mathlib.Nat.{add-sub_cancel_left}
use Rattle.digits.specs.Number.{digits_of}
use Rattle.deck.specs.Deck.{bytes_of}
use Rattle.digits.proofs.Puts.{put_none, put_turn, put_all}
use Rattle.digits.proofs.Copies.{over_full}
use Rattle.deck.proofs.Bytes.{digits_be}
use Rattle.deck.proofs.Groups.{length_bytes}
use Rattle.digits.proofs.Lists.{joined_step}
use Rattle.deck.proofs.put_block.Goals as goal

pub loop-i-init : goal.loop-i-init
unfolding bytes_of
loop-i-init c = put_none (bytes_of c.args.gs) c.args.out.now

pub loop-i-preserved : goal.loop-i-preserved
loop-i-preserved c =
    let l = c.loop-i in
    let gs = c.args.gs in
    let at = l.i * 8 in
    let k : at + 8 - at ≡ 8 = add-sub_cancel_left at 8 in
    let next : (l.i + 1) * 8 ≡ at + 8 = omega arith in
    let x : c.copy_from_slice.new.self ≡ digits_of 8 8 (get_or gs l.i 0) = c.copy_from_slice.ensures.after ∙ c.to_be_bytes.ensures ∙ digits_be (get_or gs l.i 0) in
    rw (k, next) (put_turn l.invariant (digits_of 8 8 (get_or gs l.i 0)) _ c.copy_from_slice.new.self 8 (joined_step (digits_of 8 8) gs 0 l.i (omega arith)) refl x (omega (arith, length_bytes gs)))

pub returns : goal.returns
returns c =
    let l = c.loop-i in
    put_all (rw (drop_of_length-le c.args.gs {i = l.i} (omega arith)) at l.invariant) ∙ over_full (bytes_of c.args.gs) c.args.out.now (omega (arith, length_bytes c.args.gs))
