-- A board that stopped or was refused does so at each later turn: its turns may pass. Assumes nothing.
use Rattle.std.proofs.Common.{◌≡◌, ℕ, suc, ◌+◌, Bool, true, false, cond, List, [], ◌∷◌, ◌++◌, sym, refl, ap, ◌∙◌, arith}
use Rattle.digits.proofs.Truth.{true_not_false}
use Rattle.codes.specs.declared.Reading.{Reading}
use Rattle.storage.specs.declared.Fence.{Fence}
use Rattle.machine.specs.declared.Cycled.{Cycled}
use Rattle.machine.specs.declared.Cycled.TheVariants as C
use Rattle.run.specs.declared.Ending.{Ending}
use Rattle.run.specs.declared.Ending.TheVariants.{Spent}
use Rattle.session.specs.Boards.{Session, other, Turned, turned_of, after_turns}
use Rattle.session.specs.Isolation.{is_ran}
use Rattle.session.specs.declared.Board.{Board}
use Rattle.session.specs.declared.Board.TheVariants.{A, B}
use Rattle.session.proofs.Isolation.{idle_keeps, answer_stays}
use Rattle.board.specs.Broken.{is_spent}
use Rattle.board.specs.Two.{board_at, turns_of, turn_ending, Plays}

ran : (answer : Cycled) → is_spent (turn_ending answer) ≡ is_ran answer
ran (C.Ran s) = refl
ran (C.Stopped s) = refl
ran (C.Refused s refusal) = refl

-- what holds of a board and of the other holds of each
of_each : (P : Board → Type 0) (x : Board) → P x → P (other x) → (y : Board) → P y
of_each P A p q A = p
of_each P A p q B = q
of_each P B p q A = q
of_each P B p q B = p

module _ (order : List ℕ) (a b : Fence) (reading : Reading) (store : List ℕ) where
  abbrev turn : Board → Session → Turned
  turn x v = turned_of x a b reading store v

  -- the session after n turns
  abbrev at : ℕ → Session → Session
  at n w = after_turns (turns_of n order) a b reading store w

  after_last : (xs : List Board) (x : Board) (w : Session) → after_turns (xs ++ (x ∷ [])) a b reading store w ≡ (turn x (after_turns xs a b reading store w)).after
  unfolding after_turns
  after_last [] x w = refl
  after_last (y ∷ ys) x w = after_last ys x (turn y w).after

  one_more : (n : ℕ) (w : Session) → at (n + 1) w ≡ (turn (board_at order n) (at n w)).after
  unfolding turns_of
  one_more n w =
      let e : n + 1 ≡ suc n = omega arith in
      ap (λ (k : ℕ). at k w) e ∙ after_last (turns_of n order) (board_at order n) w

  stays : (x : Board) (v : Session) → (turn (other x) (turn x v).after).answer ≡ (turn (other x) v).answer
  stays A v = answer_stays B a b reading store v
  stays B v = answer_stays A a b reading store v

  -- what holds before each turn: a board that does not go on has no turn that runs
  pub record Taken (w : Session) (n : ℕ) (endings : Board → Ending) (v : Session) : Type 0 where
    pub session : v ≡ at n w
    pub over : (x : Board) → is_spent (endings x) ≡ false → is_ran (turn x v).answer ≡ false

  pub before_all : (w : Session) {v : Session} {endings : Board → Ending} → v ≡ w → ((x : Board) → endings x ≡ Spent) → Taken w 0 endings v
  unfolding turns_of after_turns
  before_all w e on = record { session = e; over = λ x off. absurd (true_not_false (ap is_spent (on x)) off) }

  -- after a turn, be it taken or passed
  module _ {w : Session} {n : ℕ} {x : Board} {v u : Session} {before endings : Board → Ending} (so : Taken w n before v) (plays : Plays x a b reading store v u before endings) where
    -- either way the session is the one after the turn
    by_turn : u ≡ (turn x v).after
    by_turn = by (is_spent (before x)) refl plays.session
      where
        by : (on : Bool) → is_spent (before x) ≡ on → u ≡ cond on (turn x v).after v → u ≡ (turn x v).after
        by true e s = s
        by false e s = s ∙ sym (idle_keeps x a b reading store v (so.over x e))

    idle : is_spent (endings x) ≡ false → is_ran (turn x v).answer ≡ false
    idle off = by (is_spent (before x)) refl (ap is_spent (sym plays.its) ∙ off)
      where
        by : (on : Bool) → is_spent (before x) ≡ on → is_spent (cond on (turn_ending (turn x v).answer) (before x)) ≡ false → is_ran (turn x v).answer ≡ false
        by true e none = sym (ran (turn x v).answer) ∙ none
        by false e none = so.over x e

    its_own : is_spent (endings x) ≡ false → is_ran (turn x u).answer ≡ false
    its_own off = ap (λ (s : Session). is_ran (turn x s).answer) (by_turn ∙ idle_keeps x a b reading store v (idle off)) ∙ idle off

    the_others : is_spent (endings (other x)) ≡ false → is_ran (turn (other x) u).answer ≡ false
    the_others off =
        ap (λ (s : Session). is_ran (turn (other x) s).answer) by_turn ∙ ap is_ran (stays x v) ∙ so.over (other x) (ap is_spent (sym plays.others) ∙ off)

    pub one_taken : x ≡ board_at order n → Taken w (n + 1) endings u
    one_taken named =
        record {
          session = by_turn ∙ (λ i. (turn (named i) (so.session i)).after) ∙ sym (one_more n w);
          over = of_each (λ (y : Board). is_spent (endings y) ≡ false → is_ran (turn y u).answer ≡ false) x its_own the_others;
        }
