-- One byte a turn: the front that is put, and the bytes that are left. Assumes nothing.
use mathlib.Core.List.{◌++◌}
use lib.ListN.{take, drop}
use Rattle.digits.proofs.Puts.{Put}
use Rattle.lamps.specs.Walk.{hex_bytes}
use Rattle.lamps.proofs.walks.put_record.Given as goal

abbrev pub invariant-loop-byte : goal.invariant-loop-byte
invariant-loop-byte l = Put (take l.at l.initial.room ++ hex_bytes l.bytes) l.initial.room (hex_bytes (drop l.byte-index l.bytes)) l.room l.next
