-- A cycle in a fence neither reads nor changes a byte of main storage outside it: document 02, request 13. Assumes nothing.
use Rattle.std.specs.Prelude.{ℕ, ◌≡◌, List, length, get_or}
use Rattle.codes.specs.declared.Reading.{Reading}
use Rattle.storage.specs.Storage.{Within, Beyond}
use Rattle.storage.specs.declared.Fence.{Fence}
use Rattle.machine.specs.Cycle.{Outcome, cycle_in}
use Rattle.machine.specs.declared.State.{State}
use Rattle.machine.specs.declared.Cycled.{Cycled}

-- two main storages of one size that have the same bytes in the fence
pub record SameIn (fence : Fence) (m k : List ℕ) : Type 0 where
  pub size : length m ≡ length k
  pub bytes : (i : ℕ) → Within fence i → get_or m i 0 ≡ get_or k i 0

-- two outcomes that nothing in the fence tells apart
pub record AlikeIn (fence : Fence) (o p : Outcome Cycled) : Type 0 where
  pub answer : o.answer ≡ p.answer
  pub in_main : SameIn fence o.main p.main
  pub in_local : o.local ≡ p.local

-- what it answers and leaves depends on the fence's bytes alone
abbrev pub ReadsInside : Type 0
ReadsInside =
    (fence : Fence) (reading : Reading) (store m k local : List ℕ) (s : State)
    → SameIn fence m k
    → AlikeIn fence (cycle_in fence reading store m local s) (cycle_in fence reading store k local s)

-- and every byte outside is as it was
abbrev pub ChangesInside : Type 0
ChangesInside =
    (fence : Fence) (reading : Reading) (store main local : List ℕ) (s : State) (i : ℕ)
    → Beyond fence i
    → get_or (cycle_in fence reading store main local s).main i 0 ≡ get_or main i 0
