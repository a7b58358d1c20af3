-- The store of AP and SP has its words, and the shipped add's passes among them: one computed test each; so its words in a row lead from place to place. Assumes nothing.
use Prim.Native.Nat.{ℕ}
use mathlib.Core.Path.{◌≡◌}
use mathlib.Core.List.{List}
use mathlib.Core.Bool.{false, ◌&&◌}
use lib.Count.{ones}
use lib.Dec.{T, eqb}
use Rattle.word.specs.Word.{packed, in_width}
use Rattle.digits.specs.Table.{among}
use Rattle.storage.specs.Storage.{whole}
use Rattle.machine.specs.Cycle.{stops}
use Rattle.run.proofs.Goes.{Machine, Right}
use Rattle.decimal.specs.Program.{program}
use Rattle.decimal.proofs.Steps.{Has, has, addresses, fields_at, Turn, all_going, turns}
use Rattle.decimal.proofs.Places.{Place, resting, Reaches, Block, Refusing, Walks, walks, refuse}
use Rattle.decimal.proofs.Pass1.{testing}
use Rattle.decimal.proofs.Pass2.{leading}
use Rattle.apsp.specs.Program.{signed_program, signed_words}
use Rattle.apsp.specs.Entry.{DONE}

pub own : Has signed_words signed_program (addresses signed_program)
unfolding packed in_width ones signed_words
own = has signed_words signed_program (addresses signed_program) tt

pub tests : Has signed_words program testing
unfolding packed in_width ones signed_words
tests = has signed_words program testing tt

pub leads : Has signed_words program leading
unfolding packed in_width ones signed_words
leads = has signed_words program leading tt

module _ (local : List ℕ) where
  pub steps : (ws : List Turn) → T (all_going signed_program (addresses signed_program) ws) → {m : Machine} {q : Place} → Right signed_words m → Walks whole signed_program local ws m q
      → Reaches whole signed_words local (turns ws) m q
  steps ws t right r = walks whole signed_words signed_program (addresses signed_program) own local ws t right r

  pub refuses : (wx : ℕ) → T (among wx (addresses signed_program) && stops (fields_at signed_program wx)) → eqb wx DONE ≡ false → {k : ℕ} {p : Place} (main : List ℕ)
      → Block whole signed_words local k p (resting wx main) → Refusing whole signed_words local DONE k p main
  refuses wx t e main b = refuse whole signed_words signed_program (addresses signed_program) own local DONE wx t e main b
