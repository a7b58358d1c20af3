-- 19, or the pieces. Assumes nothing.
use mathlib.Core.Path.{refl}
use mathlib.Core.List.{[], ◌∷◌, ◌++◌}
use Rattle.digits.proofs.Puts.{put_none}
use Rattle.text.proofs.Texts.{too_small}
use Rattle.channels.specs.Channels.{channels, work_channels}
use Rattle.lamps.specs.Picture.{title_of, blocks_of, picture_of}
use Rattle.lamps.proofs.Chain.{then, finished}
use Rattle.lamps.proofs.pictures.picture.Goals as goal

pub returns-then-room-lt661 : goal.returns-then-room-lt661
unfolding picture_of
returns-then-room-lt661 c =
    let a = c.args in
    too_small (picture_of a.cycle a.at a.s a.w) a.room.now c.if-room-lt661.true

pub returns : goal.returns
unfolding picture_of
returns c =
    let a = c.args in
    let h = c.if-room-lt661.false in
    let lamps = blocks_of channels a.s in
    let adder = blocks_of work_channels a.w in
    let p = put_none (picture_of a.cycle a.at a.s a.w) a.room.now in
    let p = then p (title_of a.cycle a.at) (lamps ++ (adder ++ (10 ∷ []))) refl c.title.ensures c.after-next.ensures h in
    let p = then p lamps (adder ++ (10 ∷ [])) refl refl c.put_state-next.ensures h in
    let p = then p adder (10 ∷ []) refl refl c.put_work-next.ensures h in
    finished (then p (10 ∷ []) [] refl refl c.after.ensures h) h
