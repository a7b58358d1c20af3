-- One group a turn: the front that is put, and what is left of the groups. Assumes nothing.
use Rattle.std.proofs.Common.{◌*◌, map, drop}
use Rattle.digits.specs.Lists.{joined}
use Rattle.digits.specs.Number.{digits_of}
use Rattle.deck.specs.Deck.{bytes_of}
use Rattle.digits.proofs.Puts.{Put}
use Rattle.deck.proofs.put_block.Given as goal

abbrev pub invariant-loop-i : goal.invariant-loop-i
invariant-loop-i l = Put (bytes_of l.fn.gs) l.initial.out (joined (map (digits_of 8 8) (drop l.i l.fn.gs))) l.out (l.i * 8)
