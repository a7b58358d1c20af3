-- Exactly when a session is not opened and a turn is refused, and that no second answer fits. Assumes nothing.
use Prim.Native.Nat.{ℕ}
use mathlib.Core.Path.{◌≡◌, sym, ◌∙◌}
use mathlib.Core.List.{List}
use mathlib.Core.Logic.{◌↔◌}
use Rattle.std.specs.Prelude.{Result, Some, Err}
use Rattle.digits.specs.Refusal.{first, Given}
use Rattle.digits.specs.declared.refusal.Refusal.{Refusal}
use Rattle.digits.proofs.Refusals.{given_first, first_given, exactly, result_tells}
use Rattle.digits.proofs.Sole.{sole}
use Rattle.word.specs.Layout.{fields_of}
use Rattle.word.specs.declared.Fields.{Fields}
use Rattle.codes.specs.declared.Reading.{Reading}
use Rattle.storage.specs.declared.Fence.{Fence}
use Rattle.machine.specs.Cycle.{outcome, stops, word_at, refusal_in}
use Rattle.machine.specs.declared.State.{State}
use Rattle.machine.specs.declared.Cycled.{Cycled}
use Rattle.machine.proofs.Promises.{decided_refusal}
use Rattle.decimal.specs.declared.Added.{Added}
use Rattle.session.specs.Opening.{open_checks, open_of}
use Rattle.session.specs.Turn.{turn_checks, turn_of}
use Rattle.session.specs.Boards.{own, session, turned_to}
use Rattle.session.specs.declared.BothAfter.{BothAfter}
use Rattle.session.proofs.open.Reads as opens
use Rattle.session.proofs.turn.Reads as turn
use Rattle.session.proofs.turn_of.Reads as turn_of_reads
use Rattle.session.proofs.add.Reads as add

-- ---- exactly when

pub open_exactly : (main : ℕ) (a b : Fence) (why : Refusal) → (open_of main a b ≡ Err why) ↔ Given why (open_checks main a b)
open_exactly main a b why = exactly result_tells tt (open_checks main a b) why

pub turn_exactly : (own other : Fence) (reading : Reading) (store main local : List ℕ) (s : State) (why : Refusal)
    → (refusal_in (turn_of own other reading store main local s).answer ≡ Some why) ↔ Given why (turn_checks own other reading store main local s)
unfolding turn_of
turn_exactly own other reading store main local s why =
    let f : Fields = fields_of (word_at store s) in
    let is = decided_refusal reading (first (turn_checks own other reading store main local s)) (stops f) f main local s in
    (λ e. first_given (turn_checks own other reading store main local s) (sym is ∙ e), λ g. is ∙ given_first (turn_checks own other reading store main local s) why g)

-- ---- no second answer fits, nor a second storage

pub open_sole : (κs : _) (args : _) (r q : Result (Unit {0}) Refusal) (x y : _) → opens.Post κs args r x → opens.Post κs args q y → r ≡ q
open_sole κs args r q x y a b = sole a b

pub turn_sole : (κs : _) (args : _) (r q : Cycled) (x y : _) → turn.Post κs args r x → turn.Post κs args q y
    → outcome r x.1.1.1.1.0.now x.1.1.1.1.1.0.now ≡ outcome q y.1.1.1.1.0.now y.1.1.1.1.1.0.now
turn_sole κs args r q x y a b = sole a b

pub turn_of_sole : (κs : _) (args : _) (r q : BothAfter) (x y : _) → turn_of_reads.Post κs args r x → turn_of_reads.Post κs args q y
    → turned_to r.answer (session (own r.a x.1.1.1.1.1.1.0.now) (own r.b x.1.1.1.1.1.1.1.0.now) x.1.1.1.1.1.0.now)
    ≡ turned_to q.answer (session (own q.a y.1.1.1.1.1.1.0.now) (own q.b y.1.1.1.1.1.1.1.0.now) y.1.1.1.1.1.0.now)
turn_of_sole κs args r q x y a b = sole a b

pub add_sole : (κs : _) (args : _) (r q : Added) (x y : _) → add.Post κs args r x → add.Post κs args q y → outcome r x.1.0.now x.1.1.0.now ≡ outcome q y.1.0.now y.1.1.0.now
add_sole κs args r q x y a b = sole a.0 b.0
