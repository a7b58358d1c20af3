-- `table::corrected` meets its contract, by the table's rule at the sum's index. Assumes nothing.
use mathlib.Core.Path.{ap, ◌∙◌}
use native.Mathlib.Omega.{arith}
use Rattle.digits.proofs.Bits.{one_lt}
use Rattle.table.specs.Table.{entry_at}
use Rattle.table.proofs.Entries.{entry, entry_is}
use Rattle.table.proofs.corrected.Goals as goal

pub bounds-entries-index : goal.bounds-entries-index
bounds-entries-index c =
    let a = c.args in
    omega (arith, c.index.ensures, one_lt a.low, one_lt a.high)

pub returns : goal.returns
returns c =
    let a = c.args in
    entry c.table-entries.result c.table-entries.ensures c.index.result (bounds-entries-index c)
    ∙ ap entry_at c.index.ensures
    ∙ entry_is a.byte (omega arith) a.low a.high
