-- 19, or the pieces. Assumes nothing.
use mathlib.Core.Path.{refl}
use mathlib.Core.List.{[], ◌∷◌, ◌++◌}
use Rattle.digits.proofs.Puts.{put_none}
use Rattle.text.specs.Ascii.{ascii}
use Rattle.text.proofs.Texts.{too_small}
use Rattle.channels.specs.Channels.{channels}
use Rattle.lamps.specs.Picture.{blocks_of, start_picture_of}
use Rattle.lamps.proofs.Chain.{then, finished}
use Rattle.lamps.proofs.pictures.start_picture.Goals as goal

pub returns-then-room-lt508 : goal.returns-then-room-lt508
unfolding start_picture_of
returns-then-room-lt508 c =
    let a = c.args in
    too_small (start_picture_of a.s) a.room.now c.if-room-lt508.true

pub returns : goal.returns
unfolding start_picture_of
returns c =
    let a = c.args in
    let h = c.if-room-lt508.false in
    let lamps = blocks_of channels a.s in
    let p = put_none (start_picture_of a.s) a.room.now in
    let p = then p (ascii "CYCLE      0\n") (lamps ++ (10 ∷ [])) refl refl c.after-next.ensures h in
    let p = then p lamps (10 ∷ []) refl refl c.put_state-next.ensures h in
    finished (then p (10 ∷ []) [] refl refl c.after.ensures h) h
