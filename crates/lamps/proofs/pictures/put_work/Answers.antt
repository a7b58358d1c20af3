-- The blocks of the record, under the names of its rows. Assumes nothing.
use mathlib.Core.Path.{ap, ◌∙◌}
use Rattle.channels.specs.Channels.{work_channels}
use Rattle.lamps.specs.Rows.{table, blocks_bytes}
use Rattle.lamps.proofs.Rows.{work_blocks}
use Rattle.lamps.proofs.pictures.put_work.Goals as goal

pub put_blocks-requires-clause-room_len : goal.put_blocks-requires-clause-room_len
put_blocks-requires-clause-room_len c = rw (ap (blocks_bytes (table work_channels)) c.worked.ensures ∙ work_blocks c.args.w) c.requires

pub returns : goal.returns
returns c = rw (ap (blocks_bytes (table work_channels)) c.worked.ensures ∙ work_blocks c.args.w) at c.put_blocks.ensures
