-- The record in its columns. Assumes nothing.
use mathlib.Core.Path.{sym, ap, ◌∙◌}
use Rattle.channels.specs.Channels.{work_channels, worked}
use Rattle.lamps.specs.Rows.{table, byte_cells}
use Rattle.lamps.proofs.Cells.{cells_bytes}
use Rattle.lamps.proofs.columns.work_cells.Goals as goal

pub put_cells-requires : goal.put_cells-requires
unfolding worked
put_cells-requires c = rw (ap (byte_cells (table work_channels)) c.worked.ensures ∙ sym (cells_bytes work_channels c.args.w)) c.requires

pub returns : goal.returns
unfolding worked
returns c = rw (ap (byte_cells (table work_channels)) c.worked.ensures ∙ sym (cells_bytes work_channels c.args.w)) at c.put_cells.ensures
