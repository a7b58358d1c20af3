-- The blocks of the record, under the names of its rows. Assumes nothing.
use mathlib.Core.Path.{ap, ◌∙◌}
use Rattle.channels.specs.Channels.{channels}
use Rattle.lamps.specs.Rows.{table, blocks_bytes}
use Rattle.lamps.proofs.Rows.{state_blocks}
use Rattle.lamps.proofs.pictures.put_state.Goals as goal

pub put_blocks-requires-clause-room_len : goal.put_blocks-requires-clause-room_len
put_blocks-requires-clause-room_len c = rw (ap (blocks_bytes (table channels)) c.saved.ensures ∙ state_blocks c.args.s) c.requires

pub returns : goal.returns
returns c = rw (ap (blocks_bytes (table channels)) c.saved.ensures ∙ state_blocks c.args.s) at c.put_blocks.ensures
