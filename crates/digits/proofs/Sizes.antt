-- What is known where 1 is not given. Assumes nothing.
use Prim.Native.Nat.{ℕ, ◌≤◌}
use mathlib.Core.Path.{◌≡◌}
use mathlib.Core.Bool.{false}
use lib.Dec.{eqb, ltb}
use borrow.Author.Tests.{ltb-false, eqb-true, not-false}
use Rattle.digits.specs.Sizes.{storage_wrong, sizes_wrong}
use Rattle.digits.proofs.Truth.{neither}

pub right_storage : (main local : ℕ) → storage_wrong main local ≡ false → (main ≤ 65536) × (local ≡ 256)
right_storage main local h =
    let (_, rest) = neither (eqb main 0) _ h in
    let (large, other) = neither (ltb 65536 main) _ rest in
    (ltb-false 65536 main large, eqb-true local 256 (not-false (eqb local 256) other))

pub right_sizes : (store main local : ℕ) → sizes_wrong store main local ≡ false → (store ≤ 4096) × (storage_wrong main local ≡ false)
right_sizes store main local h =
    let (_, rest) = neither (eqb store 0) _ h in
    let (large, storage) = neither (ltb 4096 store) _ rest in
    (ltb-false 4096 store large, storage)
