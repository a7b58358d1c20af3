-- The record in its columns. Assumes nothing.
use mathlib.Core.Path.{sym, ap, ◌∙◌}
use Rattle.channels.specs.Channels.{channels, saved}
use Rattle.lamps.specs.Rows.{table, byte_cells}
use Rattle.lamps.proofs.Cells.{cells_bytes}
use Rattle.lamps.proofs.columns.state_cells.Goals as goal

pub put_cells-requires : goal.put_cells-requires
unfolding saved
put_cells-requires c = rw (ap (byte_cells (table channels)) c.saved.ensures ∙ sym (cells_bytes channels c.args.s)) c.requires

pub returns : goal.returns
unfolding saved
returns c = rw (ap (byte_cells (table channels)) c.saved.ensures ∙ sym (cells_bytes channels c.args.s)) at c.put_cells.ensures
