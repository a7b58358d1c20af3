-- The lesson of a trap: the shipped words, and behind them a routine that breaks into them. Assumes nothing.
use Rattle.std.specs.Prelude.{ℕ, List, [], ◌∷◌, ◌++◌}
use Rattle.decimal.specs.Program.{Microword, microword, packed_words, shipped}

-- the return word: CU 3 with CM 1. It names no register and no storage; CA names S, and no bit of it is let in
abbrev pub back : ℕ → Microword
back at =
    record {
      address = at;
      fields = record {
        cn = 0;
        ch = 0;
        cl = 0;
        cm = 1;
        cu = 3;
        ca = 4;
        aa = 0;
        cb = 0;
        ck = 0;
        ak = 0;
        pk = 0;
        cd = 0;
        cf = 0;
        cg = 0;
        cv = 0;
        cc = 0;
        cs = 0;
        asb = 0;
      };
    }

-- G counts the traps: no shipped word uses it
abbrev pub routine : List Microword
routine =
    microword 0x15 (5, 1, 0) 1 (10, 3) (0, 0, 0) (0, 1) (10, 0) ∷  -- G := G + 1
    back 0x16 ∷  -- return
    []

unfoldable pub lesson : List ℕ
lesson = shipped ++ packed_words routine
