-- The fields and their bytes are inverse. Assumes nothing.
use Prim.Native.Nat.{ℕ, zero, suc, ◌+◌, ◌≤◌}
use mathlib.Core.Path.{◌≡◌, refl}
use mathlib.Core.List.{List}
use lib.ListN.{length, replicate}
use Rattle.digits.specs.Lent.{over}
use Rattle.word.specs.declared.Fields.{Fields}
use Rattle.channels.specs.Lamps.{byte}
use Rattle.channels.proofs.Trips.{AllClean, save_loaded}
use Rattle.panel.specs.Fields.{field_bytes, fields_in}

all_clean : (n i : ℕ) (l : List ℕ) → AllClean (replicate n byte) i l
all_clean zero i l = tt
all_clean (suc n) i l = (tt, all_clean n (i + 1) l)

pub fields_back : (f : Fields) (old : List ℕ) → fields_in (over (field_bytes f) old) ≡ f
unfolding field_bytes fields_in
fields_back f old = refl

pub bytes_back : (bytes : List ℕ) → 18 ≤ length bytes → over (field_bytes (fields_in bytes)) bytes ≡ bytes
unfolding field_bytes fields_in
bytes_back bytes h = save_loaded (replicate 18 byte) bytes 0 h (all_clean 18 0 bytes)
