-- The name at its place, or none. Assumes nothing.
use Rattle.std.proofs.Common.{le_refl}
use Rattle.text.specs.Ascii.{ascii}
use Rattle.text.proofs.Rows.{made_at, now_at}
use Rattle.lamps.specs.Ending.{field_names, field_of}
use Rattle.lamps.proofs.endings.field_name.Goals as goal

pub returns : goal.returns
unfolding field_of
returns c =
    rw (c.unwrap_or.ensures, c.copied.ensures, c.get.ensures.lookup.4 (le_refl c.args.place) _, now_at)
    (made_at ascii field_names c.args.place "")
