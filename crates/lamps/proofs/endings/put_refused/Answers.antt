-- Six pieces. Assumes nothing.
use Prim.Native.Nat.{◌≤◌}
use mathlib.Core.Path.{refl}
use mathlib.Core.List.{[], ◌∷◌, ◌++◌}
use native.Mathlib.Omega.{arith}
use lib.ListN.{length}
use Rattle.digits.proofs.Puts.{put_none, put_all, put_size}
use Rattle.text.specs.Ascii.{ascii}
use Rattle.text.specs.Text.{decimal}
use Rattle.text.specs.Words.{words_of}
use Rattle.lamps.specs.Ending.{field_of, place_of, refused_of}
use Rattle.lamps.proofs.Chain.{then}
use Rattle.lamps.proofs.Told.{refused_short}
use Rattle.lamps.proofs.endings.put_refused.Goals as goal

pub returns-clause-value : goal.returns-clause-value
unfolding refused_of
returns-clause-value c =
    let a = c.args in
    let whole = refused_of a.number a.field a.address in
    let fits : length whole ≤ length a.room.now = omega (arith, c.requires, refused_short a.number a.field a.address) in
    let tail = words_of a.number ++ (10 ∷ []) in
    let p = put_none whole a.room.now in
    let p = then p (ascii "REFUSED ") (decimal a.number ++ (field_of a.field ++ (place_of a.address ++ tail))) refl refl c.after-next.ensures fits in
    let p = then p (decimal a.number) (field_of a.field ++ (place_of a.address ++ tail)) refl refl c.put_number-next.ensures.value fits in
    let p = then p (field_of a.field) (place_of a.address ++ tail) refl refl c.put_field-next.ensures.value fits in
    let p = then p (place_of a.address) tail refl c.place.ensures c.after-next-2.ensures fits in
    let p = then p (words_of a.number) (10 ∷ []) refl refl c.put_words-next.ensures.value fits in
    let p = then p (10 ∷ []) [] refl refl c.after.ensures fits in
    (put_size p, put_all p)
