-- The number or its refusal, then 19. Assumes nothing.
use mathlib.Core.Path.{sym, ◌∙◌}
use Rattle.panel.proofs.Calls.{signed_short, signed_is, signed_refused}
use Rattle.panel.proofs.panel_read_signed.Goals as goal

pub returns-then-number-lt1 : goal.returns-then-number-lt1
returns-then-number-lt1 c =
    signed_short _ _ c.in-Ok.z _ c.number_of.ensures.0 (sym c.in-Ok.is ∙ c.read_signed.ensures) c.if-number-lt1.true

pub returns-else-number-lt1 : goal.returns-else-number-lt1
returns-else-number-lt1 c =
    signed_is _ _ c.in-Ok.z (sym c.in-Ok.is ∙ c.read_signed.ensures) c.if-number-lt1.false

pub returns-in-Err : goal.returns-in-Err
returns-in-Err c =
    signed_refused _ _ c.in-Err.refusal _ c.number_of-in-Err.ensures.0 (sym c.in-Err.is ∙ c.read_signed.ensures)
