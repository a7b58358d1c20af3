-- The lesson of the two readings: a word for each of the seven codes on which they differ. Assumes nothing.
use Rattle.std.specs.Prelude.{ℕ, List, [], ◌∷◌}
use Rattle.decimal.specs.Program.{Microword, microword, packed_words}

-- a word that sums nothing, by where to go next and what becomes of S; CA names S, and no bit of it is let in
abbrev pub asks : ℕ → ℕ × ℕ × ℕ → ℕ → Microword
asks at next cs = microword at next 1 (4, 0) (0, 0, 0) (0, 0) (0, cs)

abbrev pub stop : ℕ → Microword
stop at = microword at (0, 0, 0) 1 (4, 4) (0, 0, 0) (0, 0) (0, 0)

-- a test that is met leads on to the next, and one that is not to a stop: at (CN, CH, CL) CS
abbrev pub lesson_of : List Microword
lesson_of =
    asks 0x00 (0, 1, 6) 0 ∷  -- CL 6: on to 03 by 1BC, in compatibility by R1
    stop 0x01 ∷
    stop 0x02 ∷
    asks 0x03 (1, 8, 0) 0 ∷  -- CH 8: on to 06 by S1, in compatibility by R2
    stop 0x04 ∷
    stop 0x05 ∷
    asks 0x06 (2, 0, 4) 0 ∷  -- CL 4: in compatibility on to 09 by G1
    stop 0x07 ∷
    stop 0x08 ∷
    asks 0x09 (2, 1, 12) 0 ∷  -- CL 12: in compatibility on to 0B by R3
    stop 0x0A ∷
    asks 0x0B (3, 0, 0) 5 ∷  -- CS 5: in compatibility S1 on
    asks 0x0C (3, 0, 1) 15 ∷  -- CS 15: in compatibility S1 off
    asks 0x0D (3, 3, 0) 0 ∷  -- CH 3: in basic on to 0E where V6 and V7 are both 0, else back to 0C
    stop 0x0E ∷
    []

unfoldable pub readings : List ℕ
readings = packed_words lesson_of
