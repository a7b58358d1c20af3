-- The ones of a word under each of the code's masks are the ones of the fields that are covered: one law, at each list of places. Assumes nothing.
use Prim.Native.Nat.{ℕ, suc}
use mathlib.Core.Path.{◌≡◌}
use mathlib.Core.List.{List, [], ◌∷◌, ◌++◌}
use mathlib.Core.Bool.{Bool}
use lib.Bits.{bit_and}
use lib.Count.{ones}
use Rattle.digits.specs.Line.{ones_of}
use Rattle.digits.specs.Table.{among}
use Rattle.digits.proofs.Lines.{ones_mask}
use Rattle.word.specs.Layout.{widths, line_of, PN, PA, CA, AA, CK, PK, PS, PC}
use Rattle.word.specs.Parity.{values, covered, pn_covers, ps_covers, pc_covers}

-- for each place from the given one on, whether it is among some places
abbrev marks_from : ℕ → List ℕ → List ℕ → List Bool
marks_from place [] places = []
marks_from place (k ∷ ks) places = among place places ∷ marks_from (suc place) ks places

abbrev marks : List ℕ → List Bool
marks places = marks_from 1 widths places

pub pn_under : (w : ℕ) → ones (bit_and w 0x7F_0000_0000_0000) ≡ ones_of (covered pn_covers PN (line_of w))
pn_under w = ones_mask widths (marks (pn_covers ++ (PN ∷ []))) w

pub pa_under : (w : ℕ) → ones (bit_and w 0x8000_0000_0000) ≡ ones_of (values (PA ∷ []) (line_of w))
pa_under w = ones_mask widths (marks (PA ∷ [])) w

pub ps_under : (w : ℕ) → ones (bit_and w 0xFFFF_DFB0_0000) ≡ ones_of (covered ps_covers PS (line_of w))
ps_under w = ones_mask widths (marks (ps_covers ++ (PS ∷ []))) w

pub pc_under : (w : ℕ) → ones (bit_and w 0xF_FFFF) ≡ ones_of (covered pc_covers PC (line_of w))
pc_under w = ones_mask widths (marks (pc_covers ++ (PC ∷ []))) w

pub ca_under : (w : ℕ) → ones (bit_and w 0x3_E020_0000) ≡ ones_of (covered (CA ∷ AA ∷ []) PK (line_of w))
ca_under w = ones_mask widths (marks (CA ∷ AA ∷ PK ∷ [])) w

pub ck_under : (w : ℕ) → ones (bit_and w 0x7A0_0000) ≡ ones_of (covered (CK ∷ []) PK (line_of w))
ck_under w = ones_mask widths (marks (CK ∷ PK ∷ [])) w
