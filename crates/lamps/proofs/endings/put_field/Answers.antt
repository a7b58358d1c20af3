-- A name is of three characters at most. Assumes nothing.
use native.Mathlib.Omega.{arith}
use mathlib.Core.Path.{◌≡◌, ap, ◌∙◌}
use lib.ListN.{length}
use Rattle.lamps.specs.Ending.{field_of}
use Rattle.lamps.proofs.Told.{field_short}
use Rattle.lamps.proofs.endings.put_field.Goals as goal

pub after-requires : goal.after-requires
after-requires c =
    let text : length c.as_bytes.result.now ≡ length (field_of c.args.field) = ap length (c.as_bytes.ensures.value ∙ c.field_name.ensures) in
    omega (arith, c.requires, field_short c.args.field, text)

pub returns-clause-upper_bound : goal.returns-clause-upper_bound
returns-clause-upper_bound c =
    let text : length c.as_bytes.result.now ≡ length (field_of c.args.field) = ap length (c.as_bytes.ensures.value ∙ c.field_name.ensures) in
    omega (arith, c.after.ensures.0, field_short c.args.field, text)
