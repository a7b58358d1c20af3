-- What reading and writing are to each other. Assumes nothing.
use Rattle.std.specs.Prelude.{ℕ, ◌^◌, ◌<◌, ◌≡◌, List, ◌⊎◌, ◌↔◌, ℤ, pos, nat_abs, Ok}
use Rattle.digits.specs.Table.{Each}
use Rattle.signed.specs.Signed.{sign_digit, read_signed, write_signed, field_after}

-- "Reading what was written returns the number."
abbrev pub ReadsBack : Type 0
ReadsBack = (number : ℤ) (field : List ℕ) → write_signed number field ≡ Ok tt → read_signed (field_after number field) ≡ Ok number

-- "for signs C and D, minus zero excepted"
abbrev pub KeptSign : List ℕ → ℤ → Type 0
KeptSign field number = (sign_digit field ≡ 0xC) ⊎ ((sign_digit field ≡ 0xD) × (number ≡ pos 0 → ⊥))

-- "Writing what was read returns the bytes only" for these; and always for these
abbrev pub WritesBack : Type 0
WritesBack =
    (field : List ℕ) (number : ℤ) → read_signed field ≡ Ok number → (write_signed number field ≡ Ok tt) × ((field_after number field ≡ field) ↔ KeptSign field number)

-- a field of bytes that is read as the number
pub record Shows (number : ℤ) : Type 0 where
  pub field : List ℕ
  pub bytes : Each (λ (b : ℕ). b < 256) field
  pub reads : read_signed field ≡ Ok number

-- the numbers that are read are those of at most fifteen digits, and no other
abbrev pub Reached : Type 0
Reached = (number : ℤ) → Shows number ↔ (nat_abs number < 10 ^ 15)
