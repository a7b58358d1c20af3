-- The number, where no test refuses. Assumes nothing.
use mathlib.Core.Path.{◌≡◌, ap, ◌∙◌}
use borrow.Author.Tests.{le-ltb}
use native.Mathlib.Omega.{arith}
use mathlib.Core.Bool.{Bool}
use lib.IntN.{ℤ}
use mir.Syntax.{w64}
use mir.Val.{to_z, of_z}
use Rattle.std.specs.Prelude.{Ok}
use Rattle.digits.specs.Packed.{sign_of, is_minus, signed}
use Rattle.signed.specs.Signed.{sign_digit, number_in}
use Rattle.digits.proofs.Packed.{minus_digits, none_digits}
use Rattle.signed.proofs.Whole.{signed_reads}
use Rattle.signed.proofs.Answers.{read_number_lem}
use Rattle.std.proofs.Common.{rules}
use Rattle.signed.proofs.read_signed.Goals as goal
use Rattle.signed.proofs.read_signed.Goals.{in-11, in_default}

pub returns : goal.returns
returns c =
    let field = c.args.field.now in
    let d = c.digit_at-sign.ensures in
    let size = c.size_in.ensures in
    let x = c.digit_at-sign.result in
    let test : Bool = c.match-matches.matches in
    let minus : test ≡ is_minus (sign_of (sign_digit field)) = rw (← d.0, minus_digits x d.1) (elim c.match-matches.branch [ in-11 w ↦ search rules | in_default w ↦ search rules ]) in
    let number : to_z w64 (of_z w64 c.with_sign.result) ≡ number_in field =
    ap (λ (z : ℤ). to_z w64 (of_z w64 z)) c.with_sign.ensures ∙ signed_reads c.size_in.result (omega (arith, size.1)) test ∙ (λ i. signed (minus i) (size.0 i)) in
    ap Ok number ∙ read_number_lem field c.if-field-ne8.false (rw c.bad_place.ensures at c.if-bad_place-lt15.false) (rw (← d.0) (none_digits _ d.1 ∙ le-ltb _ 10 c.if-sign-lt10.false))
