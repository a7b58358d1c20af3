-- That no second answer fits, the paper's numbers to check by, and that no reading matters to the shipped words. Assumes nothing.
use Prim.Native.Nat.{ℕ}
use mathlib.Core.Path.{◌≡◌, refl}
use mathlib.Core.List.{List, [], ◌∷◌}
use mathlib.Core.Bool.{true}
use lib.Count.{ones}
use Rattle.std.specs.Prelude.{Some, None}
use Rattle.digits.specs.Refusal.{first}
use Rattle.digits.specs.declared.refusal.Refusal.TheVariants as R
use Rattle.digits.proofs.Sole.{sole}
use Rattle.word.specs.Word.{packed, in_width}
use Rattle.codes.specs.Seven.{uses_none}
use Rattle.storage.specs.Storage.{whole}
use Rattle.machine.specs.Cycle.{outcome}
use Rattle.machine.specs.declared.State.{State}
use Rattle.decimal.specs.Program.{shipped}
use Rattle.decimal.specs.Entry.{add_checks}
use Rattle.decimal.specs.declared.Added.{Added}
use Rattle.decimal.proofs.words.Reads as words
use Rattle.decimal.proofs.start_with.Reads as start_with
use Rattle.decimal.proofs.start.Reads as start
use Rattle.decimal.proofs.entry.Reads as entry
use Rattle.decimal.proofs.answered_at.Reads as answered_at
use Rattle.decimal.proofs.add_in.Reads as add_in
use Rattle.decimal.proofs.add.Reads as add

-- ---- no second answer fits, nor a second storage

pub words_sole : (κs : _) (args : _) (r q : List ℕ) (x y : _) → words.Post κs args r x → words.Post κs args q y → r ≡ q
words_sole κs args r q x y a b = sole a b

pub start_with_sole : (κs : _) (args : _) (r q : State) (x y : _) → start_with.Post κs args r x → start_with.Post κs args q y → r ≡ q
start_with_sole κs args r q x y a b = sole a b

pub start_sole : (κs : _) (args : _) (r q : State) (x y : _) → start.Post κs args r x → start.Post κs args q y → r ≡ q
start_sole κs args r q x y a b = sole a b

pub answered_at_sole : (κs : _) (args : _) (r q : Added) (x y : _) → answered_at.Post κs args r x → answered_at.Post κs args q y → r ≡ q
answered_at_sole κs args r q x y a b = sole a b

pub entry_sole : (κs : _) (args : _) (r q : Added) (x y : _) → entry.Post κs args r x → entry.Post κs args q y
    → outcome r x.1.1.0.now x.1.1.1.0.now ≡ outcome q y.1.1.0.now y.1.1.1.0.now
entry_sole κs args r q x y a b = sole a b

pub add_in_sole : (κs : _) (args : _) (r q : Added) (x y : _) → add_in.Post κs args r x → add_in.Post κs args q y → outcome r x.1.0.now x.1.1.0.now ≡ outcome q y.1.0.now y.1.1.0.now
add_in_sole κs args r q x y a b = sole a.0 b.0

pub add_sole : (κs : _) (args : _) (r q : Added) (x y : _) → add.Post κs args r x → add.Post κs args q y → outcome r x.0.now x.1.0.now ≡ outcome q y.0.now y.1.0.now
add_sole κs args r q x y a b = sole a.0 b.0

-- ---- "Length 16 accepted, 0 and 17 refused by 12. In a storage of 65,536 bytes a field whose last byte is at 65,535 is accepted; one place
-- further is refused by 13." Fields that touch and the same field twice are accepted, fields one byte nearer are refused by 14.

pub to_check_by :
    first (add_checks whole 65536 256 0 16 16)
    ∷ first (add_checks whole 65536 256 0 16 0)
    ∷ first (add_checks whole 65536 256 0 17 17)
    ∷ first (add_checks whole 65536 256 65520 0 16)
    ∷ first (add_checks whole 65536 256 65521 0 16)
    ∷ first (add_checks whole 65536 256 65520 65520 16)
    ∷ first (add_checks whole 65536 256 15 0 16)
    ∷ first (add_checks whole 65536 255 65521 0 17)
    ∷ []
    ≡ None ∷ Some R.DecimalLength ∷ Some R.DecimalLength ∷ None ∷ Some R.DecimalField ∷ None ∷ Some R.Overlap ∷ Some R.Size ∷ []
to_check_by = refl

-- ---- the shipped words use none of the seven codes of request 7, so that both readings run them alike (`run_alike`)

pub uses_none_lem : uses_none shipped ≡ true
unfolding packed in_width ones shipped
uses_none_lem = refl
