-- What is answered where nothing refuses. Assumes nothing.
use Prim.Native.Nat.{ℕ, ◌^◌, ◌<◌, ◌≤◌}
use mathlib.Core.Path.{◌≡◌, refl}
use mathlib.Core.List.{List}
use mathlib.Core.Bool.{false}
use borrow.Author.Tests.{eq-eqb, le-ltb, lt-leb}
use lib.IntN.{ℤ, nat_abs}
use lib.ListN.{length}
use Rattle.std.specs.Prelude.{Ok}
use Rattle.digits.specs.Packed.{sign_of, is_none}
use Rattle.signed.specs.Signed.{sign_digit, bad_place, number_in, read_signed, field_for, write_signed, field_after}

module _ (field : List ℕ) (eight : length field ≡ 8) where
  pub read_number_lem : 15 ≤ bad_place field → is_none (sign_of (sign_digit field)) ≡ false → Ok (number_in field) ≡ read_signed field
  unfolding read_signed
  read_number_lem fine t = rw (eq-eqb (length field) 8 eight, le-ltb (bad_place field) 15 fine, t)

  pub written : (number : ℤ) → nat_abs number < 10 ^ 15 → (Ok tt ≡ write_signed number field) × (field_for number ≡ field_after number field)
  unfolding write_signed field_after
  written number h = rw (eq-eqb (length field) 8 eight, lt-leb (10 ^ 15) (nat_abs number) h) (refl, refl)
