-- From the low end: the digits still to put, before those that are put. Assumes nothing.
use Prim.Native.Nat.{◌-◌, ◌/◌, ◌%◌}
use mathlib.Core.Path.{◌≡◌, ap, ◌∙◌}
use mathlib.Core.List.{[], ◌∷◌, ◌++◌, map, map-append}
use native.Mathlib.Omega.{arith}
use Rattle.digits.specs.Number.{digits_of}
use Rattle.digits.proofs.Number.{digits_last}
use Rattle.digits.proofs.Puts.{put_before}
use Rattle.text.specs.Text.{capital, hexadecimal}
use Rattle.text.proofs.put_hexadecimal.Goals as goal

pub loop-i-preserved : goal.loop-i-preserved
loop-i-preserved c =
    let l = c.loop-i in
    let all = hexadecimal l.i l.rest in
    let ds = hexadecimal (l.i - 1) (l.rest / 16) in
    let x : all ≡ ds ++ (c.capital.result ∷ []) =
    ap (map capital) (digits_last 4 l.i l.rest (omega arith)) ∙ rw c.capital.ensures (map-append capital (digits_of 4 (l.i - 1) (l.rest / 16)) (l.rest % 16 ∷ [])) in
    put_before ds all l.out l.i c.capital.result (omega arith) (omega arith) x ∙ l.invariant
