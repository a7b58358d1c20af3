-- 19, or the four pieces. Assumes nothing.
use mathlib.Core.Path.{refl}
use mathlib.Core.List.{[], ◌∷◌, ◌++◌}
use Rattle.digits.proofs.Puts.{put_none}
use Rattle.text.proofs.Texts.{too_small}
use Rattle.channels.specs.Channels.{channels, work_channels}
use Rattle.lamps.specs.Columns.{cells}
use Rattle.lamps.specs.Line.{front_of, line_of}
use Rattle.lamps.proofs.Chain.{then, finished}
use Rattle.lamps.proofs.lines.line.Goals as goal

pub returns-then-room-lt124 : goal.returns-then-room-lt124
unfolding line_of
returns-then-room-lt124 c =
    let a = c.args in
    too_small (line_of a.cycle a.at a.s a.w) a.room.now c.if-room-lt124.true

pub returns : goal.returns
unfolding line_of
returns c =
    let a = c.args in
    let h = c.if-room-lt124.false in
    let lamps = cells channels a.s in
    let adder = cells work_channels a.w in
    let p = put_none (line_of a.cycle a.at a.s a.w) a.room.now in
    let p = then p (front_of a.cycle a.at) (lamps ++ (adder ++ (10 ∷ []))) refl c.front.ensures c.after-next.ensures h in
    let p = then p lamps (adder ++ (10 ∷ [])) refl refl c.state_cells-next.ensures h in
    let p = then p adder (10 ∷ []) refl refl c.work_cells-next.ensures h in
    finished (then p (10 ∷ []) [] refl refl c.after.ensures h) h
