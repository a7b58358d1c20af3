-- What is laid out, added and said is the entry's answer. Assumes nothing.
use Rattle.board.proofs.Laws.{said}
use Rattle.board.proofs.add.say.Goals as goal

pub returns : goal.returns
returns c =
    let a = c.args in
    rw (c.has_signs.ensures, said a.operation a.first.now a.second.now _ _ _ _ _ c.field_length-size.ensures c.lay_out.ensures c.summed-added.ensures) at c.result.ensures
