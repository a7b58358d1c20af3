-- In a fence and in main storage. Assumes nothing.
use Prim.Native.Nat.{ℕ, ◌<◌, ◌≤◌}
use mathlib.Core.Path.{◌≡◌, refl}
use mathlib.Core.Bool.{Bool, true, false, not, ◌&&◌, ◌||◌, or-true}
use native.Mathlib.Omega.{arith}
use borrow.Author.Tests.{leb-false, ltb-false, lt-leb, le-ltb}
use lib.Dec.{leb, ltb}
use Rattle.digits.proofs.Truth.{neither}
use Rattle.storage.specs.Storage.{beyond, Within, whole, outside, main_address}
use Rattle.storage.specs.declared.Access.{Access}
use Rattle.storage.specs.declared.Fence.{Fence}

-- an address in main storage of so many bytes, and in the fence
pub record In (fence : Fence) (main at : ℕ) : Type 0 where
  pub in_main : at < main
  pub in_fence : Within fence at

module _ (fence : Fence) (main at : ℕ) where
  pub is_in : leb main at || beyond fence at ≡ false → In fence main at
  is_in h =
      let (p, q) = neither (leb main at) (beyond fence at) h in
      let (l, r) = neither (ltb at fence.start) (leb fence.end at) q in
      record { in_main = leb-false main at p; in_fence = (ltb-false at fence.start l, leb-false fence.end at r) }

  pub in_is : In fence main at → leb main at || beyond fence at ≡ false
  in_is i = rw (lt-leb main at i.in_main, le-ltb at fence.start i.in_fence.0, lt-leb fence.end at i.in_fence.1)

-- past 11 a byte that is fetched or put has its place there
module _ (fence : Fence) (main : ℕ) (a : Access) (past : outside fence main a ≡ false) (in_main : a.local ≡ false) where
  pub inside_fetch : a.fetches ≡ true → In fence main (main_address a)
  inside_fetch e = is_in fence main (main_address a) (rw (e, in_main) at past)

  pub inside_put : a.puts ≡ true → In fence main (main_address a)
  inside_put e = is_in fence main (main_address a) (rw (e, in_main, or-true a.fetches) at past)

-- ---- with the whole of main storage in the fence 11 is document 01's: "main address not inside main storage"

whole_beyond : (main at : ℕ) → main ≤ 65536 → leb main at || beyond whole at ≡ leb main at
whole_beyond main at h = by (leb main at) refl
  where
    by : (b : Bool) → leb main at ≡ b → b || beyond whole at ≡ b
    by true e = refl
    by false e = let l = leb-false main at e in rw (le-ltb at 0 (omega arith), lt-leb 65536 at (omega arith))

pub plain_eleven : (main : ℕ) (a : Access) → main ≤ 65536 → outside whole main a ≡ (a.fetches || a.puts) && (not a.local && leb main (main_address a))
plain_eleven main a h = λ i. (a.fetches || a.puts) && (not a.local && whole_beyond main (main_address a) h i)
