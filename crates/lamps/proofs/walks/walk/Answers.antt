-- 19, or one row a turn. Assumes nothing.
use Prim.Native.Nat.{ℕ, ◌+◌, ◌≤◌}
use mathlib.Core.Path.{◌≡◌, sym, ap, subst}
use native.Mathlib.Omega.{arith}
use lib.ListN.{length, get_or}
use Rattle.digits.proofs.Puts.{put_none}
use Rattle.text.proofs.Texts.{too_small}
use Rattle.channels.specs.Channels.{channels, record_length}
use Rattle.lamps.specs.Columns.{digit_counts}
use Rattle.lamps.specs.Walk.{walk_row, walk_of}
use Rattle.lamps.proofs.Chain.{then, finished}
use Rattle.lamps.proofs.Lit.{digits_at, rows_left, row_step, row_room, length_walk}
use Rattle.lamps.proofs.walks.walk.Goals as goal

pub returns-then-room-lt14076 : goal.returns-then-room-lt14076
unfolding walk_of
returns-then-room-lt14076 c = too_small walk_of c.args.room.now (omega (arith, length_walk, c.if-room-lt14076.true))

pub loop-i-init : goal.loop-i-init
loop-i-init c = put_none (rows_left 0) c.args.room.now

pub put_row-next-requires : goal.put_row-next-requires
put_row-next-requires c =
    let l = c.loop-i in
    let inside = c.loop-i-test.true in
    (inside, subst (λ (d : ℕ). l.next + length (walk_row l.i d) ≤ length l.room) (sym (digits_at l.i _ inside)) (row_room l.i inside c.if-room-lt14076.false l.invariant))

pub loop-i-preserved : goal.loop-i-preserved
loop-i-preserved c =
    let l = c.loop-i in
    let inside = c.loop-i-test.true in
    then l.invariant (walk_row l.i (get_or (digit_counts channels) l.i 0)) (rows_left (l.i + 1)) (row_step l.i inside) (ap (walk_row l.i) (digits_at l.i _ inside)) c.put_row-next.ensures (omega (arith, length_walk, c.if-room-lt14076.false))

pub returns : goal.returns
unfolding walk_of
returns c =
    let l = c.loop-i in
    let end : l.i ≡ record_length = omega (arith, c.loop-i-test.false, l.auto.i-end) in
    finished (rw end at l.invariant) (omega (arith, length_walk, c.if-room-lt14076.false))
