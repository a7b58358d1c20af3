-- What `pack` computes is the word of the fields. Assumes nothing.
use Prim.Native.Nat.{ℕ, ◌+◌, ◌-◌, ◌*◌, ◌%◌, ◌^◌, ◌<◌}
use mathlib.Core.Path.{◌≡◌, refl, ap, ◌∙◌}
use mathlib.Core.List.{List, [], ◌∷◌, ◌++◌}
use mathlib.Core.Bool.{true}
use native.Mathlib.Omega.{arith}
use lib.Bits.{bit_and}
use lib.Count.{ones}
use Rattle.digits.specs.Line.{parts, join, ones_of}
use Rattle.digits.proofs.Lines.{parts_join}
use Rattle.word.specs.Layout.{widths, line_of, field, line, PN, PS, PC}
use Rattle.word.specs.Parity.{odd_bit, values, covered, pn_covers, pa_covers, ps_covers, pc_covers}
use Rattle.word.specs.Word.{in_width, line_with}
use Rattle.word.specs.declared.Fields.{Fields}
use Rattle.word.proofs.Masks.{pn_under, ps_under, pc_under}
use Rattle.word.proofs.Odd.{odd_lt, odd_blank}
use Rattle.word.proofs.Trips.{fit_line}

-- the four parity bits, added to the word that has 0 for them
spread : (f : Fields) (pn pa ps pc : ℕ) → join widths (line f 0 0 0 0) + pn * 2 ^ 48 + pa * 2 ^ 47 + ps * 2 ^ 20 + pc ≡ join widths (line f pn pa ps pc)
spread f pn pa ps pc = omega arith

-- a parity bit that stands as 0 in the line, as the mask gives it
bit_is : (n mask : ℕ) (places : List ℕ) (parity : ℕ) (l : List ℕ) → ones (bit_and n mask) ≡ ones_of (covered places parity (line_of n))
    → line_of n ≡ l → field l parity ≡ 0 → 1 - ones (bit_and n mask) % 2 ≡ odd_bit (values places l)
bit_is n mask places parity l under e z =
    ap (λ (x : ℕ). 1 - x % 2) (under ∙ ap (λ (k : List ℕ). ones_of (covered places parity k)) e ∙ ap (λ (b : ℕ). ones_of (values places l ++ (b ∷ []))) z)
    ∙ odd_blank (values places l)

module _ (f : Fields) (width : in_width f ≡ true) where
  pub line_is : (pa n : ℕ) → pa < 2 → n ≡ join widths (line f 0 pa 0 0) → line_of n ≡ line f 0 pa 0 0
  line_is pa n h e =
      ap (parts widths) e ∙ parts_join widths (line f 0 pa 0 0) (fit_line f 0 pa 0 0 width (omega arith) h (omega arith) (omega arith))

  pub word_is : (a n : ℕ) → n ≡ join widths (line f 0 0 0 0)
      → n + (1 - ones (bit_and n 0x7F_0000_0000_0000) % 2) * 2 ^ 48 + (1 - ones (a % 4096) % 2) * 2 ^ 47 + (1 - ones (bit_and (n + (1 - ones (a % 4096) % 2) * 2 ^ 47) 0xFFFF_DFB0_0000) % 2) * 2 ^ 20 + (1 - ones (bit_and n 0xF_FFFF) % 2) ≡ join widths (line_with f a)
  word_is a n e =
      let l : line_of n ≡ line f 0 0 0 0 = line_is 0 n (omega arith) e in
      let pa : ℕ = odd_bit (pa_covers a) in
      let pa-is : 1 - ones (a % 4096) % 2 ≡ pa = omega arith in
      let m : ℕ = n + pa * 2 ^ 47 in
      let em : m ≡ join widths (line f 0 pa 0 0) = omega (arith, spread f 0 pa 0 0) in
      let lm : line_of m ≡ line f 0 pa 0 0 = line_is pa m (odd_lt (pa_covers a)) em in
      rw (
        pa-is,
        bit_is n 0x7F_0000_0000_0000 pn_covers PN (line f 0 0 0 0) (pn_under n) l refl,
        bit_is n 0xF_FFFF pc_covers PC (line f 0 0 0 0) (pc_under n) l refl,
        bit_is m 0xFFFF_DFB0_0000 ps_covers PS (line f 0 pa 0 0) (ps_under m) lm refl,
        e,
      ) (spread f _ pa _ _)
