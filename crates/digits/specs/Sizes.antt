-- The sizes of what is lent: the word store, main storage and local storage. Assumes nothing.
use Rattle.std.specs.Prelude.{ℕ, Bool, not, ◌||◌, eqb, ltb}

-- 1: "main storage empty or over 65,536; local not 256 bytes"
abbrev pub storage_wrong : ℕ → ℕ → Bool
storage_wrong main local = eqb main 0 || (ltb 65536 main || not (eqb local 256))

-- 1: "word store empty or over 4,096", or the storages
abbrev pub sizes_wrong : ℕ → ℕ → ℕ → Bool
sizes_wrong store main local = eqb store 0 || (ltb 4096 store || storage_wrong main local)

-- 19: "room lent is too small"
abbrev pub room_wrong : ℕ → ℕ → Bool
room_wrong size room = ltb room size
