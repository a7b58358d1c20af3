-- The letters still to compare, against all. Assumes nothing.
use Rattle.std.proofs.Common.{arith, sym, ◌∙◌}
use Rattle.arguments.proofs.Laws.{letter_wrong, letter_right}
use Rattle.arguments.proofs.forms.names.Goals as goal

pub returns-then-to_ascii_uppercase-letter : goal.returns-then-to_ascii_uppercase-letter
returns-then-to_ascii_uppercase-letter c =
    sym (letter_wrong c.args.name.now c.args.text.now c.loop-i.i (omega arith) (rw (c.to_ascii_uppercase.ensures.value, c.byte_at.ensures) at c.if-to_ascii_uppercase-letter.true)) ∙ c.loop-i.invariant

pub loop-i-preserved : goal.loop-i-preserved
loop-i-preserved c =
    letter_right c.args.name.now c.args.text.now c.loop-i.i (omega arith) (rw (c.to_ascii_uppercase.ensures.value, c.byte_at.ensures) at c.if-to_ascii_uppercase-letter.false) ∙ c.loop-i.invariant
