-- A line that tells a sum. Assumes nothing.
use Prim.Native.Nat.{ℕ, ◌+◌, ◌*◌}
use mathlib.Core.Path.{◌≡◌}
use mathlib.Core.List.{List}
use native.Mathlib.Omega.{arith}
use lib.ListN.{length, length-append}
use Rattle.text.specs.Text.{field_digits}
use Rattle.text.proofs.Texts.{length_digits}
use Rattle.results.specs.Results.{told_of}

pub length_told : (field end : List ℕ) → length (told_of field end) ≡ 3 + (2 * length field + length end)
unfolding told_of
length_told field end = omega (arith, length_digits field, length-append (field_digits field) end)
