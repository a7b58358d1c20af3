-- How many digits there are, by the forms. Assumes nothing.
use Rattle.std.proofs.Common.{arith, sym, ap, ◌∙◌, length}
use Rattle.text.specs.Ascii.{ascii}
use Rattle.arguments.proofs.Laws.{address_short, limit_short}
use Rattle.arguments.proofs.forms.given_of.Goals as goal

pub short_value-requires-then-address_form : goal.short_value-requires-then-address_form
short_value-requires-then-address_form c =
    omega (arith, address_short c.args.text.now (sym c.address_form.ensures ∙ c.if-address_form.true), ap length c.after-then-address_form.ensures)

pub value-requires-clause-short : goal.value-requires-clause-short
value-requires-clause-short c =
    omega (arith, limit_short (ascii "FROM") c.args.text.now (sym c.limit_form.ensures ∙ c.if-limit_form.true), ap length c.after-then-limit_form.ensures)

pub value-requires-then-limit_form-2-clause-short : goal.value-requires-then-limit_form-2-clause-short
value-requires-then-limit_form-2-clause-short c =
    omega (arith, limit_short (ascii "TO") c.args.text.now (sym c.limit_form-2.ensures ∙ c.if-limit_form-2.true), ap length c.after-then-limit_form-2.ensures)
