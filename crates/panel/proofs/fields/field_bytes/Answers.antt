-- In word order. Assumes nothing.
use mathlib.Core.Path.{refl}
use Rattle.panel.specs.Fields.{field_bytes}
use Rattle.panel.proofs.fields.field_bytes.Goals as goal

pub returns : goal.returns
unfolding field_bytes
returns c = refl
