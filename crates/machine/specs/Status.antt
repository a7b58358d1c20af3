-- Where the result goes, and what changes S. Assumes nothing.
use Rattle.std.specs.Prelude.{ℕ, Bool, cond, ◌&&◌, eqb, leb, get_or}
use Rattle.digits.specs.Bits.{with_bit}
use Rattle.word.specs.declared.Fields.{Fields}
use Rattle.codes.specs.Status.{statuses}
use Rattle.codes.specs.declared.Reading.{Reading}
use Rattle.adder.specs.declared.Sum.{Sum}

-- "The result goes to the CD register": the register of a code takes it, every other keeps what it has
abbrev pub into : ℕ → ℕ → ℕ → ℕ → ℕ
into code cd result old = cond (eqb cd code) result old

-- "CC: .. 4 +0 save, 5 +1 save, 6 +S3 save"
abbrev pub saves : ℕ → Bool
saves cc = leb 4 cc && leb cc 6

-- "then CS changes S; then S3 takes the new AC if CC saves it"
unfoldable pub status_of : Reading → Fields → Sum → ℕ → ℕ
status_of reading f z s =
    let changed : ℕ = get_or (statuses reading z.result s) f.cs s in
    cond (saves f.cc) (with_bit changed 3 z.ac) changed
