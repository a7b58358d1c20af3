-- A text in a room that is too small, and in one that is not. Assumes nothing.
use Prim.Native.Nat.{ℕ, ◌*◌, ◌<◌, ◌≤◌}
use mathlib.Core.Path.{◌≡◌, refl}
use mathlib.Core.List.{List, [], ◌∷◌}
use native.Mathlib.Omega.{arith}
use borrow.Author.Tests.{lt-ltb, le-ltb}
use lib.ListN.{length, length-append}
use Rattle.digits.specs.Lent.{over}
use Rattle.digits.proofs.Copies.{over_full}
use Rattle.text.specs.Text.{hexadecimal, field_digits, put_of, room_after}
use Rattle.std.specs.Prelude.{Ok, Err}
use Rattle.digits.specs.declared.refusal.Refusal.TheVariants as R

module _ (text old : List ℕ) where
  pub too_small : length old < length text → (Err R.Room ≡ put_of text (length old)) × (old ≡ room_after text old)
  unfolding put_of room_after
  too_small h = rw (lt-ltb (length old) (length text) h) (refl, refl)

  -- a text that fills the room
  pub fills : length text ≡ length old → room_after text old ≡ text
  unfolding room_after
  fills e = rw (le-ltb (length old) (length text) (omega arith)) (over_full text old (omega arith))

  pub fits : length text ≤ length old → (Ok (length text) ≡ put_of text (length old)) × (over text old ≡ room_after text old)
  unfolding put_of room_after
  fits h = rw (le-ltb (length old) (length text) h) (refl, refl)

-- two characters a byte
pub length_digits : (field : List ℕ) → length (field_digits field) ≡ 2 * length field
length_digits [] = refl
length_digits (x ∷ field) = omega (arith, length_digits field, length-append (hexadecimal 2 x) (field_digits field))
