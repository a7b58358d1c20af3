-- The registers are named as the columns of the channels are. Assumes nothing.
use Prim.Native.Nat.{ℕ}
use mathlib.Core.Path.{◌≡◌, refl}
use mathlib.Core.List.{[], ◌∷◌, ◌++◌, map}
use lib.ListN.{take}
use Rattle.text.specs.Ascii.{ascii}
use Rattle.machine.specs.declared.State.{State}
use Rattle.channels.specs.Lamps.{Channel}
use Rattle.channels.specs.Channels.{channels}
use Rattle.arguments.specs.Arguments.{letters}

-- the 13 letters and WX are the headings of the first 14 columns
pub register_names : map (λ (c : Channel State). ascii c.column) (take 14 channels) ≡ map (λ (letter : ℕ). letter ∷ []) letters ++ (ascii "WX" ∷ [])
register_names = refl
