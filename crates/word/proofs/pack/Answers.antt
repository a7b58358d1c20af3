-- 20, then 8 and 9 as the bare word shows them, then the word. Assumes nothing.
use Prim.Native.Nat.{ℕ}
use mathlib.Core.Path.{◌≡◌, sym, ap, ◌∙◌}
use mathlib.Core.List.{List}
use mathlib.Core.Bool.{Bool, true, false, not, ◌||◌}
use borrow.Author.Tests.{not-false}
use native.Mathlib.Omega.{arith}
use Rattle.digits.specs.Line.{join}
use Rattle.digits.specs.Refusal.{first}
use Rattle.digits.proofs.Lines.{join_lt}
use Rattle.digits.proofs.Truth.{neither}
use Rattle.word.specs.Layout.{widths, line_of, line}
use Rattle.word.specs.Word.{packed, in_width, k_checks, far_address}
use Rattle.word.specs.declared.Fields.{Fields}
use Rattle.std.specs.Prelude.{Ok}
use Rattle.word.proofs.Sums.{line_is, word_is}
use Rattle.word.proofs.Trips.{fit_line}
use Rattle.word.proofs.pack.Goals as goal

-- past 20 every field is in its width
width_of : (a : ℕ) (f : Fields) (fits : Bool) → fits ≡ in_width f → far_address a || not fits ≡ false → in_width f ≡ true
width_of a f fits e h = sym e ∙ not-false fits (neither (far_address a) (not fits) h).1

-- 8 and 9 do not see the four parity bits
k-same : (f : Fields) (n : ℕ) → in_width f ≡ true → n ≡ join widths (line f 0 0 0 0) → first (k_checks (line_of n)) ≡ first (k_checks (line f 0 0 0 0))
k-same f n width e = ap (λ (l : List ℕ). first (k_checks l)) (line_is f width 0 n (omega arith) e)

pub returns-then-address-in_width : goal.returns-then-address-in_width
unfolding packed
returns-then-address-in_width c = rw (← c.in_width.ensures, c.if-address-in_width.true)

pub returns-in-Some : goal.returns-in-Some
unfolding packed
returns-in-Some c =
    let f = c.args.fields in
    let a = c.args.address in
    let fits = c.in_width in
    let left = c.if-address-in_width.false in
    let width = width_of a f _ fits.ensures left in
    rw (← fits.ensures, left, ← k-same f _ width c.bare-word.ensures, ← c.in-Some.ensures)

pub with_parity-requires : goal.with_parity-requires
with_parity-requires c =
    let f = c.args.fields in
    let a = c.args.address in
    let width = width_of a f _ c.in_width.ensures c.if-address-in_width.false in
    rw c.bare-word.ensures
    (join_lt widths (line f 0 0 0 0) (fit_line f 0 0 0 0 width (omega arith) (omega arith) (omega arith) (omega arith)))

pub returns-in-None : goal.returns-in-None
unfolding packed
returns-in-None c =
    let f = c.args.fields in
    let a = c.args.address in
    let fits = c.in_width in
    let left = c.if-address-in_width.false in
    let bare = c.bare-word.ensures in
    let width = width_of a f _ fits.ensures left in
    rw (← fits.ensures, left, ← k-same f _ width bare, ← c.in-None.ensures)
    (ap Ok (c.with_parity.ensures ∙ word_is f width a _ bare))
