-- 19, or the three pieces. Assumes nothing.
use mathlib.Core.Path.{refl}
use mathlib.Core.List.{[], ◌∷◌, ◌++◌}
use Rattle.digits.proofs.Puts.{put_none}
use Rattle.text.specs.Ascii.{ascii}
use Rattle.text.proofs.Texts.{too_small}
use Rattle.channels.specs.Channels.{channels}
use Rattle.lamps.specs.Columns.{cells}
use Rattle.lamps.specs.Line.{start_of}
use Rattle.lamps.proofs.Chain.{then, finished}
use Rattle.lamps.proofs.lines.start.Goals as goal

pub returns-then-room-lt93 : goal.returns-then-room-lt93
unfolding start_of
returns-then-room-lt93 c =
    let a = c.args in
    too_small (start_of a.s) a.room.now c.if-room-lt93.true

pub returns : goal.returns
unfolding start_of
returns c =
    let a = c.args in
    let h = c.if-room-lt93.false in
    let lamps = cells channels a.s in
    let p = put_none (start_of a.s) a.room.now in
    let p = then p (ascii "      0 ---") (lamps ++ (10 ∷ [])) refl refl c.after-next.ensures h in
    let p = then p lamps (10 ∷ []) refl refl c.state_cells-next.ensures h in
    finished (then p (10 ∷ []) [] refl refl c.after.ensures h) h
