-- The shipped words: a decimal add in two passes. Assumes nothing.
use Rattle.std.specs.Prelude.{ℕ, List, [], ◌∷◌, map, get_or, Result, Ok, Err}
use Rattle.digits.specs.declared.refusal.Refusal.{Refusal}
use Rattle.word.specs.Word.{packed}
use Rattle.word.specs.declared.Fields.{Fields}

-- a microword, and where it stands
pub record Microword : Type 0 where
  pub address : ℕ
  pub fields : Fields

-- the address, where to go next, storage, A, B, how they are summed, and where the sum goes and what becomes of S; every other field is 0
abbrev pub microword : ℕ → ℕ × ℕ × ℕ → ℕ → ℕ × ℕ → ℕ × ℕ × ℕ → ℕ × ℕ → ℕ × ℕ → Microword
microword at (cn, ch, cl) cm (ca, cf) (cb, ck, cg) (cv, cc) (cd, cs) =
    record {
      address = at;
      fields = record {
        cn = cn;
        ch = ch;
        cl = cl;
        cm = cm;
        cu = 0;
        ca = ca;
        aa = 0;
        cb = cb;
        ck = ck;
        ak = 0;
        pk = 0;
        cd = cd;
        cf = cf;
        cg = cg;
        cv = cv;
        cc = cc;
        cs = cs;
        asb = 0;
      };
    }

-- 02 to 09 test every digit, upward from the lowest byte; 0A to 13 add, downward from the highest
-- at (CN, CH, CL) CM (CA, CF) (CB, CK, CG) (CV, CC) (CD, CS)
abbrev pub program : List Microword
program =
    microword 0x00 (0, 0, 1) 1 (4, 0) (0, 0, 0) (0, 6) (5, 0) ∷  -- H := the carry in S3
    microword 0x01 (0, 1, 0) 1 (9, 3) (0, 0, 0) (0, 0) (11, 0) ∷  -- T := L, the bytes to test
    microword 0x02 (1, 0, 0) 4 (12, 3) (0, 0, 0) (0, 5) (12, 0) ∷  -- read at U V; V := V + 1, its carry in S3
    microword 0x03 (2, 1, 0) 1 (9, 3) (0, 0, 0) (0, 0) (11, 0) ∷  -- all tested: T := L, the bytes to add
    microword 0x04 (1, 1, 5) 0 (13, 3) (0, 0, 0) (0, 6) (13, 0) ∷  -- write it back; U := U + S3; on to 07 if both digits of R are decimal, else to 06
    microword 0x05 (2, 0, 5) 0 (11, 3) (3, 15, 3) (0, 0) (11, 0) ∷  -- write it back; T := T - 1; on to 09 if both digits of R are decimal, else to 08
    microword 0x06 (0, 0, 0) 1 (4, 4) (0, 0, 0) (0, 0) (0, 0) ∷  -- stop: a bad digit in the second field
    microword 0x07 (1, 0, 1) 3 (14, 3) (0, 0, 0) (0, 5) (14, 0) ∷  -- read at I J; J := J + 1, its carry in S3
    microword 0x08 (0, 0, 0) 1 (4, 4) (0, 0, 0) (0, 0) (0, 0) ∷  -- stop: a bad digit in the first field
    microword 0x09 (0, 1, 7) 1 (15, 3) (0, 0, 0) (0, 6) (15, 0) ∷  -- I := I + S3; on to 03 if T is 0, else back to 02
    microword 0x0A (3, 0, 0) 1 (12, 3) (3, 15, 3) (0, 4) (12, 0) ∷  -- V := V - 1, its carry in S3
    microword 0x0B (5, 0, 0) 1 (5, 3) (3, 15, 3) (0, 4) (0, 0) ∷  -- all added: S3 := the carry in H
    microword 0x0C (3, 0, 1) 1 (13, 3) (3, 15, 3) (0, 6) (13, 0) ∷  -- U := U - 1 + S3
    microword 0x0D (3, 1, 0) 4 (14, 3) (3, 15, 3) (0, 4) (14, 0) ∷  -- read at U V; J := J - 1, its carry in S3
    microword 0x0E (3, 1, 1) 0 (7, 3) (0, 0, 0) (0, 0) (8, 0) ∷  -- write it back; D := R
    microword 0x0F (4, 0, 0) 1 (15, 3) (3, 15, 3) (0, 6) (15, 0) ∷  -- I := I - 1 + S3
    microword 0x10 (4, 0, 1) 3 (5, 3) (3, 15, 3) (0, 4) (0, 0) ∷  -- read at I J; S3 := the carry in H
    microword 0x11 (4, 1, 0) 1 (7, 3) (2, 0, 3) (3, 6) (7, 0) ∷  -- R := R + D + S3, decimal: the adder itself adds the six
    microword 0x12 (4, 1, 1) 0 (11, 3) (3, 15, 3) (0, 0) (11, 0) ∷  -- write the sum; T := T - 1
    microword 0x13 (2, 1, 7) 1 (4, 0) (0, 0, 0) (0, 6) (5, 0) ∷  -- H := the carry in S3; on to 0B if T is 0, else back to 0A
    microword 0x14 (0, 0, 0) 1 (4, 4) (0, 0, 0) (0, 0) (0, 0) ∷  -- stop: summed, the carry in S3
    []

-- the number that packing gives
abbrev pub numeral : Result ℕ Refusal → ℕ
numeral (Ok word) = word
numeral (Err r) = 0

-- the words of a program: each microword's fields, packed for its address
abbrev pub packed_words : List Microword → List ℕ
packed_words words = map (λ (w : Microword). numeral (packed w.fields w.address)) words

-- the words as they are shipped
unfoldable pub shipped : List ℕ
shipped = packed_words program

-- the microword at an address of a program that has one at each
abbrev pub microword_at : List Microword → ℕ → Microword
microword_at words address = get_or words address (microword address (0, 0, 0) 0 (0, 0) (0, 0, 0) (0, 0) (0, 0))
