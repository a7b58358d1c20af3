-- A bit as it was, turned off, turned on. Assumes nothing.
use mathlib.Core.Path.{sym, ◌∙◌}
use mathlib.Core.Bool.{true}
use native.Mathlib.Omega.{arith}
use Rattle.digits.proofs.Bits.{with_kept, with_off, with_on, with_lt}
use borrow.Author.Rules.{rules}
use Rattle.digits.proofs.with_bit.Goals as goal

pub returns-then-on : goal.returns-then-on
returns-then-on c =
    let a = c.args in
    let was = sym c.bit.ensures ∙ c.if-bit.true in
    sym (with_kept a.byte a.n a.on (was ∙ sym c.if-on.true))

pub returns-then-bit : goal.returns-then-bit
returns-then-bit c =
    let a = c.args in
    let was = sym c.bit.ensures ∙ c.if-bit.true in
    rw c.if-on.false (omega (arith, with_off a.byte a.n was, c.place-worth.ensures))

pub overflow_add-result : goal.overflow_add-result
overflow_add-result c =
    let a = c.args in
    let was = sym c.bit.ensures ∙ c.if-bit.false in
    record { fits = rw (c.place-worth.ensures, ← with_on a.byte a.n was) (with_lt a.byte a.n true (search rules)) }

pub returns-then-on-2 : goal.returns-then-on-2
returns-then-on-2 c =
    let a = c.args in
    let was = sym c.bit.ensures ∙ c.if-bit.false in
    rw (c.if-on-2.true, with_on a.byte a.n was, c.place-worth.ensures)

pub returns-else-on-2 : goal.returns-else-on-2
returns-else-on-2 c =
    let a = c.args in
    let was = sym c.bit.ensures ∙ c.if-bit.false in
    sym (with_kept a.byte a.n a.on (was ∙ sym c.if-on-2.false))
