-- The answer's number, and the field. Assumes nothing.
use mathlib.Core.Path.{◌≡◌, ap, ap₂, ◌∙◌}
use Rattle.signed.specs.Signed.{write_signed, field_after}
use Rattle.signed.proofs.Whole.{reads}
use Rattle.panel.specs.Answers.{answered, status, write_signed_call}
use Rattle.panel.proofs.panel_write_signed.Goals as goal

pub returns : goal.returns
unfolding write_signed_call
returns c =
    let wrote : (c.write_signed.result ≡ write_signed c.args.number c.args.field.now) × (c.write_signed.new.field ≡ field_after c.args.number c.args.field.now) = rw (reads c.args.number c.ranges.number) at c.write_signed.ensures in
    ap₂ answered (c.status.ensures ∙ ap status wrote.0) wrote.1
