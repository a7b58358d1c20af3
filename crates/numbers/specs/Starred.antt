-- "Numbers to check by. Starred ones form the proved table." Assumes nothing.
use Rattle.std.specs.Prelude.{ℕ, ◌≡◌, Bool, true, false, List, [], ◌∷◌, Result, Ok, Err}
use Rattle.digits.specs.Refusal.{refusal_number}
use Rattle.digits.specs.declared.refusal.Refusal.{Refusal}
use Rattle.digits.specs.declared.refusal.Refusal.TheVariants as R
use Rattle.word.specs.Word.{packed, taken_apart}
use Rattle.word.specs.declared.Fields.{Fields}
use Rattle.adder.specs.Adder.{sum_of}
use Rattle.adder.specs.declared.Controls.{Controls}

pub data Row : Type 0 where
  -- the fields at an address make the word
  packs : Fields → ℕ → ℕ → Row
  -- the word at an address is refused by the number
  refused : ℕ → ℕ → ℕ → Row
  -- A and B by the controls are the result, with AC
  adds : ℕ → ℕ → Controls → ℕ → Bool → Row
  -- A by CF is the result
  gates : ℕ → ℕ → ℕ → Row
  -- A and B by the controls give 1BC and AC
  carries : ℕ → ℕ → Controls → Bool → Bool → Row

-- all of A and all of B, by CV, CC and S0
abbrev all : ℕ → ℕ → Bool → Controls
all cv cc s0 = record { cf = 3; cg = 3; cv = cv; cc = cc; s0 = s0; s3 = false }

-- A by CF, and no B
abbrev alone : ℕ → Controls
alone cf = record { cf = cf; cg = 0; cv = 0; cc = 0; s0 = false; s3 = false }

-- a refusal of the paper by this number
abbrev RefusedBy : ℕ → Result Fields Refusal → Type 0
RefusedBy number (Ok f) = ⊥
RefusedBy number (Err (R.Other n place)) = ⊥
RefusedBy number (Err r) = refusal_number r ≡ number

-- by the definitions that the contracts of `pack`, `take_apart` and `add` cite
abbrev pub Holds : Row → Type 0
Holds (packs f address word) = packed f address ≡ Ok word
Holds (refused word address number) = RefusedBy number (taken_apart word address)
Holds (adds a b c result ac) = ((sum_of a b c).result ≡ result) × ((sum_of a b c).ac ≡ ac)
Holds (gates cf a result) = (sum_of a 0 (alone cf)).result ≡ result
Holds (carries a b c one ac) = ((sum_of a b c).one_bc ≡ one) × ((sum_of a b c).ac ≡ ac)

abbrev binary : Controls
binary = all 0 0 false

abbrev decimal : Controls
decimal = all 3 0 false

-- "P: address 0, CL 1, CM 1, CA 14, CB 3, CK 1, CD 14, CF 3, CG 1, others 0"
abbrev p : Fields
p =
    record {
      cn = 0;
      ch = 0;
      cl = 1;
      cm = 1;
      cu = 0;
      ca = 14;
      aa = 0;
      cb = 3;
      ck = 1;
      ak = 0;
      pk = 0;
      cd = 14;
      cf = 3;
      cg = 1;
      cv = 0;
      cc = 0;
      cs = 0;
      asb = 0;
    }

abbrev pub rows : List Row
rows =
    packs p 0 0x00018093988E6801 ∷  -- P "gives 00018093988E6801"
    refused 0x00018093988E6800 0 7 ∷  -- "P with its lowest bit 0: refusal 7"
    adds 0x5D 0x99 binary 0xF6 false ∷  -- "5D + 99 binary = F6, AC 0"
    adds 0x38 0x47 decimal 0x85 false ∷  -- "38 + 47 decimal = 85, AC 0"
    adds 0x99 0x01 decimal 0x00 true ∷  -- "99 + 01 = 00, AC 1"
    adds 0x85 0x47 (all 3 1 true) 0x38 true ∷  -- "85 with 47 complemented, decimal, +1 = 38, AC 1"
    adds 0x38 0xAD decimal 0xD5 false ∷  -- "38 + AD decimal = D5, AC 0: six applied twice"
    gates 5 0x4B 0x04 ∷  -- "4B by XL is 04"
    gates 6 0x4B 0xB0 ∷  -- "by XH is B0"
    carries 0x7F 0x01 binary true false ∷  -- "7F + 01: 1BC 1, AC 0"
    adds 0x00 0x00 (all 1 0 false) 0xFF false ∷  -- "00 with 00 complemented, +0 = FF, AC 0"
    []
