-- The words of AP and SP: a decimal add and subtract with signs. Assumes nothing.
use Rattle.std.specs.Prelude.{ℕ, List, [], ◌∷◌}
use Rattle.decimal.specs.Program.{Microword, microword, microword_at, packed_words, program}

-- the shipped add's word at its own address
abbrev same : ℕ → Microword
same address = microword_at program address

-- 02 to 09 test every byte but the last ones, upward; 03, 11 and 15 to 20 the last ones and their signs; 0A to 13 and 24 to 27 sum, downward; 14 and
-- 28 to 2B tell what came out; 2F to 36 and 22, 23 go back to complement again; 2C to 33 write the sign
-- at (CN, CH, CL) CM (CA, CF) (CB, CK, CG) (CV, CC) (CD, CS)
abbrev pub signed_program : List Microword
signed_program =
    microword 0x00 (0, 0, 1) 1 (9, 3) (3, 15, 3) (0, 0) (11, 0) ∷  -- T := L - 1, the bytes before the last; Z0 if there are none
    microword 0x01 (0, 1, 7) 1 (9, 3) (3, 15, 3) (0, 0) (9, 0) ∷  -- L := L - 1 (L is n - 1 from here on); on to 03 if T is 0, else to 02
    same 0x02 ∷  -- read at U V; V := V + 1, its carry in S3
    microword 0x03 (4, 0, 1) 4 (12, 3) (0, 0, 0) (0, 5) (12, 0) ∷  -- read the second field's last byte at U V; V := V + 1, its carry in S3
    same 0x04 ∷  -- write it back; U := U + S3; on to 07 if both digits of R are decimal, else to 06
    same 0x05 ∷  -- write it back; T := T - 1; on to 09 if both digits of R are decimal, else to 08
    same 0x06 ∷  -- stop: a bad digit in the second field
    same 0x07 ∷  -- read at I J; J := J + 1, its carry in S3
    same 0x08 ∷  -- stop: a bad digit in the first field
    same 0x09 ∷  -- I := I + S3; on to 03 if T is 0, else back to 02
    same 0x0A ∷  -- V := V - 1, its carry in S3
    same 0x0B ∷  -- all added: S3 := the carry in H
    same 0x0C ∷  -- U := U - 1 + S3
    same 0x0D ∷  -- read at U V; J := J - 1, its carry in S3
    same 0x0E ∷  -- write it back; D := R
    same 0x0F ∷  -- I := I - 1 + S3
    microword 0x10 (9, 10, 11) 3 (5, 3) (3, 15, 3) (0, 4) (0, 4) ∷  -- read at I J; S3 := the carry in H; on by S4 and S7 to one of 24 to 27; S4 off
    microword 0x11 (5, 0, 1) 0 (13, 3) (0, 0, 0) (0, 6) (13, 0) ∷  -- write it back; U := U + S3
    same 0x12 ∷  -- write the sum; T := T - 1
    same 0x13 ∷  -- H := the carry in S3; on to 0B if T is 0, else back to 0A
    microword 0x14 (10, 7, 9) 1 (14, 3) (1, 0, 3) (0, 4) (14, 0) ∷  -- J := J + L, its carry in S3; on by S0 and the carry out (S3) to one of 28 to 2B
    microword 0x15 (5, 1, 0) 1 (7, 7) (3, 6, 2) (0, 0) (7, 0) ∷  -- sign routine: R := R crossed, plus 60 (sign less ten, then the digit); AC if the sign is A to F
    microword 0x16 (6, 6, 5) 1 (7, 3) (3, 4, 2) (0, 0) (10, 0) ∷  -- G := R + 40; on to 1B if the sign (AC) and the digit (R) are good, else to 18, 19 or 1A
    microword 0x17 (5, 0, 1) 0 (15, 3) (0, 0, 0) (0, 6) (15, 13) ∷  -- write it back; I := I + S3; S7 on: the sign routine now serves the first field
    microword 0x18 (0, 0, 0) 1 (4, 4) (0, 0, 0) (0, 0) (0, 0) ∷  -- stop: a bad sign, and no decimal R
    microword 0x19 (0, 0, 0) 1 (4, 4) (0, 0, 0) (0, 0) (0, 0) ∷  -- stop: a bad sign
    microword 0x1A (0, 0, 0) 1 (4, 4) (0, 0, 0) (0, 0) (0, 0) ∷  -- stop: a bad digit beside a good sign
    microword 0x1B (7, 12, 13) 1 (9, 3) (0, 0, 0) (0, 1) (11, 0) ∷  -- T := L + 1, the bytes to add; on by G0 (sign E, F) and G3 (B, D, F): to 1D for minus
    microword 0x1C (8, 0, 11) 1 (4, 0) (0, 0, 0) (0, 0) (0, 0) ∷  -- plus (A, C): nothing; on to 20 after the second field, to 21 after the first (S7)
    microword 0x1D (8, 0, 11) 1 (4, 3) (3, 8, 2) (0, 0) (6, 11) ∷  -- minus (B, D): S := S + 80, which turns S0 over; S6 on; on to 20 or 21
    microword 0x1E (8, 0, 11) 1 (4, 0) (0, 0, 0) (0, 0) (0, 0) ∷  -- plus (E): nothing; on to 20 or 21
    microword 0x1F (8, 0, 11) 1 (4, 0) (0, 0, 0) (0, 0) (0, 0) ∷  -- plus (F): nothing; on to 20 or 21
    microword 0x20 (5, 1, 1) 3 (14, 3) (0, 0, 0) (0, 5) (14, 10) ∷  -- read the first field's last byte at I J; J := J + 1, its carry in S3; S6 off
    microword 0x21 (2, 1, 0) 1 (4, 5) (3, 8, 1) (0, 2) (5, 2) ∷  -- H := 08 if S0 is on, else 00: the first carry; S4 on: the next byte is the last of its field
    microword 0x22 (8, 1, 1) 1 (14, 3) (0, 0, 0) (0, 0) (12, 12) ∷  -- V := J; S7 off: again
    microword 0x23 (13, 0, 1) 1 (15, 3) (0, 0, 0) (0, 0) (13, 0) ∷  -- U := I
    microword 0x24 (4, 1, 0) 1 (7, 0) (2, 0, 3) (3, 6) (7, 9) ∷  -- S4 off, S7 off: R := 0 + D or 0 - D, as S0 says, with S3
    microword 0x25 (4, 1, 0) 1 (7, 3) (2, 0, 3) (3, 6) (7, 9) ∷  -- S4 off, S7 on: R := R + D or R - D, as S0 says, with S3; S2 on if it is not 0
    microword 0x26 (4, 1, 0) 1 (7, 0) (2, 0, 2) (3, 6) (7, 9) ∷  -- S4 on, S7 off: as 24, with the high digit alone
    microword 0x27 (4, 1, 0) 1 (7, 2) (2, 0, 2) (3, 6) (7, 9) ∷  -- S4 on, S7 on: as 25, with the high digits alone
    microword 0x28 (11, 9, 0) 1 (15, 3) (0, 0, 0) (0, 6) (15, 0) ∷  -- a sum: I := I + S3, the last byte's place; on to 2E if it is not 0 (S2), else to 2C
    microword 0x29 (11, 0, 1) 1 (15, 3) (0, 0, 0) (0, 6) (15, 0) ∷  -- a sum that overflows: I := I + S3; on to 2D
    microword 0x2A (11, 1, 11) 1 (15, 3) (0, 0, 0) (0, 6) (15, 0) ∷  -- a difference below 0: I := I + S3; on to 2F to complement again, or to 2E if that was done (S7 off)
    microword 0x2B (11, 9, 0) 1 (15, 3) (0, 0, 0) (0, 6) (15, 0) ∷  -- a difference not below 0: as 28
    microword 0x2C (12, 0, 0) 3 (4, 0) (0, 0, 0) (0, 4) (0, 0) ∷  -- zero: read the last byte at I J; S3 off; on to 30, plus
    microword 0x2D (12, 11, 0) 3 (4, 0) (3, 15, 3) (0, 5) (0, 0) ∷  -- read the last byte at I J; S3 on, overflow; on to 30 for plus, to 32 for minus (S6)
    microword 0x2E (12, 11, 0) 3 (4, 0) (0, 0, 0) (0, 4) (0, 0) ∷  -- read the last byte at I J; S3 off; on to 30 for plus, to 32 for minus (S6)
    microword 0x2F (13, 11, 0) 1 (14, 3) (0, 0, 0) (0, 5) (14, 0) ∷  -- J := J + 1, its carry in S3; on to 34 if the sign is plus, to 36 if minus (S6)
    microword 0x30 (12, 0, 1) 1 (7, 3) (3, 12, 1) (0, 0) (7, 0) ∷  -- R := R + 0C, the sign plus
    microword 0x31 (12, 1, 1) 0 (4, 0) (0, 0, 0) (0, 0) (0, 0) ∷  -- write it
    microword 0x32 (12, 0, 1) 1 (7, 3) (3, 13, 1) (0, 0) (7, 0) ∷  -- R := R + 0D, the sign minus
    microword 0x33 (0, 0, 0) 1 (4, 4) (0, 0, 0) (0, 0) (0, 0) ∷  -- stop: done, S3 tells overflow
    microword 0x34 (8, 1, 0) 1 (15, 3) (0, 0, 0) (0, 6) (15, 11) ∷  -- I := I + S3, one past the end; S6 on: minus
    microword 0x35 (8, 0, 1) 1 (9, 3) (0, 0, 0) (0, 1) (11, 0) ∷  -- T := L + 1, the bytes to complement
    microword 0x36 (8, 1, 0) 1 (15, 3) (0, 0, 0) (0, 6) (15, 10) ∷  -- I := I + S3, one past the end; S6 off: plus
    []

-- the words as they are shipped
unfoldable pub signed_words : List ℕ
signed_words = packed_words signed_program
