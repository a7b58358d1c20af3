-- Whatever the other does, a board runs as it would alone. Assumes nothing.
use Prim.Native.Nat.{ℕ, ◌+◌, ◌-◌, ◌<◌}
use mathlib.Core.Path.{◌≡◌, refl, sym, ap, subst, ◌∙◌}
use mathlib.Core.List.{List, [], ◌∷◌}
use native.Mathlib.Omega.{arith}
use lib.ListN.{length, get_or, drop, length-take, length-drop}
use lib.Seq.{get_or-take, get_or-drop, ext_get_or}
use mathlib.Core.Bool.{false}
use Rattle.digits.proofs.Truth.{true_not_false}
use Rattle.codes.specs.declared.Reading.{Reading}
use Rattle.storage.specs.Storage.{Beyond, bytes_in}
use Rattle.storage.specs.declared.Fence.{Fence}
use Rattle.machine.specs.Cycle.{Outcome}
use Rattle.machine.specs.Fenced.{SameIn, AlikeIn}
use Rattle.machine.specs.declared.State.{State}
use Rattle.machine.specs.declared.Cycled.{Cycled}
use Rattle.machine.specs.declared.Cycled.TheVariants as C
use Rattle.machine.proofs.Promises.{Kept}
use Rattle.session.specs.Turn.{turn_of, state_in}
use Rattle.session.specs.Boards.{Own, own, Session, other, fence_of, own_of, with, Turned, turned_of, after_turns}
use Rattle.session.specs.Isolation.{Shown, shown_by, all_shown, turns_alone, Isolated, IsolatedInTheEnd, TurnKeeps, is_ran, IdleKeeps, AnswerStays, NeitherChanges}
use Rattle.session.specs.declared.Board.{Board}
use Rattle.session.specs.declared.Board.TheVariants.{A, B}
use Rattle.session.proofs.Turns.{turn_size, turn_keeps, turn_stops, turn_refuses, turn_spares, turn_alike}

-- ---- the two boards

pub own_with : (x : Board) (mine : Own) (main : List ℕ) (w : Session) → own_of x (with x mine main w) ≡ mine
own_with A mine main w = refl
own_with B mine main w = refl

pub main_with : (x : Board) (mine : Own) (main : List ℕ) (w : Session) → (with x mine main w).main ≡ main
main_with A mine main w = refl
main_with B mine main w = refl

-- the other board's own is as it was
spared : (x : Board) (mine : Own) (main : List ℕ) (w : Session) → own_of x (with (other x) mine main w) ≡ own_of x w
spared A mine main w = refl
spared B mine main w = refl

others : (x : Board) (mine : Own) (main : List ℕ) (w : Session) → own_of (other x) (with x mine main w) ≡ own_of (other x) w
others A mine main w = refl
others B mine main w = refl

round : (x : Board) (a b : Fence) → fence_of (other (other x)) a b ≡ fence_of x a b
round A a b = refl
round B a b = refl

-- the same bytes as a list
same_bytes : (fence : Fence) (m k : List ℕ) → SameIn fence m k → bytes_in fence m ≡ bytes_in fence k
same_bytes fence m k same =
    ext_get_or 0 (bytes_in fence m) (bytes_in fence k) (simp (length-take, length-drop, same.size))
    (λ i h. get_or-take n (drop fence.start m) i 0 (below i h) ∙ get_or-drop fence.start m i 0 ∙ same.bytes (fence.start + i) (omega arith, omega (arith, below i h))
    ∙ sym (get_or-take n (drop fence.start k) i 0 (below i h) ∙ get_or-drop fence.start k i 0))
  where
    n : ℕ
    n = fence.end - fence.start

    below : (i : ℕ) → i < length (bytes_in fence m) → i < n
    below i h = omega (arith, length-take n (drop fence.start m))

-- ---- two sessions that a board does not tell apart

module _ (a b : Fence) (reading : Reading) (store : List ℕ) where
  pub record Agree (x : Board) (w v : Session) : Type 0 where
    pub mine : own_of x w ≡ own_of x v
    pub in_main : SameIn (fence_of x a b) w.main v.main

  abbrev outcome_of : Board → List ℕ → Own → Outcome Cycled
  outcome_of x main mine = turn_of (fence_of x a b) (fence_of (other x) a b) reading store main mine.local mine.state

  abbrev next : Board → Session → Turned
  next x w = turned_of x a b reading store w

  -- a turn of its own
  module _ (x : Board) (w v : Session) (e : Agree x w v) where
    alike : AlikeIn (fence_of x a b) (outcome_of x w.main (own_of x w)) (outcome_of x v.main (own_of x v))
    alike =
        subst (λ (mine : Own). AlikeIn (fence_of x a b) (outcome_of x w.main (own_of x w)) (outcome_of x v.main mine)) e.mine
        (turn_alike (fence_of x a b) (fence_of (other x) a b) reading store w.main v.main (own_of x w).local (own_of x w).state e.in_main)

    mine_next : Agree x (next x w).after (next x v).after
    unfolding turned_of
    mine_next =
        record {
          mine = own_with x _ _ w ∙ (λ i. own (state_in (alike.answer i)) (alike.in_local i)) ∙ sym (own_with x _ _ v);
          in_main = rw (main_with x _ _ w, main_with x _ _ v) alike.in_main;
        }

    shows_same : shown_by x a b (next x w) ≡ shown_by x a b (next x v)
    unfolding turned_of
    shows_same = λ i. record { answer = alike.answer i; own = mine_next.mine i; bytes = same_bytes (fence_of x a b) _ _ mine_next.in_main i }

  -- and of the other's
  theirs_next : (x : Board) (w v : Session) → Agree x w v → Agree x (next (other x) w).after v
  unfolding turned_of
  theirs_next x w v e =
      let y : Board = other x in
      let mine : Own = own_of y w in
      let spares : (i : ℕ) → _ = turn_spares (fence_of y a b) (fence_of (other y) a b) reading store w.main mine.local mine.state in
      record {
        mine = spared x _ _ w ∙ e.mine;
        in_main = rw (main_with y _ _ w) (record {
          size = turn_size (fence_of y a b) (fence_of (other y) a b) reading store w.main mine.local mine.state ∙ e.in_main.size;
          bytes = λ i there. spares i (rw (round x a b) there) ∙ e.in_main.bytes i there;
        });
      }

  -- ---- any turns

  pub record AsAlone (x : Board) (turns : List Board) (w v : Session) : Type 0 where
    pub shows : all_shown x turns a b reading store w ≡ all_shown x (turns_alone x turns) a b reading store v
    pub ends : Agree x (after_turns turns a b reading store w) (after_turns (turns_alone x turns) a b reading store v)

  pub as_alone : (x : Board) (turns : List Board) (w v : Session) → Agree x w v → AsAlone x turns w v
  unfolding all_shown after_turns
  as_alone x [] w v e = record { shows = refl; ends = e }
  as_alone A (A ∷ ys) w v e =
      let r = as_alone A ys (next A w).after (next A v).after (mine_next A w v e) in
      record { shows = λ i. shows_same A w v e i ∷ r.shows i; ends = r.ends }
  as_alone B (B ∷ ys) w v e =
      let r = as_alone B ys (next B w).after (next B v).after (mine_next B w v e) in
      record { shows = λ i. shows_same B w v e i ∷ r.shows i; ends = r.ends }
  as_alone A (B ∷ ys) w v e =
      let r = as_alone A ys (next B w).after v (theirs_next A w v e) in
      record { shows = r.shows; ends = r.ends }
  as_alone B (A ∷ ys) w v e =
      let r = as_alone B ys (next A w).after v (theirs_next B w v e) in
      record { shows = r.shows; ends = r.ends }

agrees : (x : Board) (a b : Fence) (reading : Reading) (store : List ℕ) (w : Session) → Agree a b reading store x w w
agrees x a b reading store w = record { mine = refl; in_main = record { size = refl; bytes = λ i there. refl } }

pub isolated : Isolated
isolated x turns a b reading store w = (as_alone a b reading store x turns w w (agrees x a b reading store w)).shows

pub isolated_in_the_end : IsolatedInTheEnd
isolated_in_the_end x turns a b reading store w =
    let e = (as_alone a b reading store x turns w w (agrees x a b reading store w)).ends in
    record { own = e.mine; bytes = same_bytes (fence_of x a b) _ _ e.in_main }

pub answer_stays : AnswerStays
answer_stays x a b reading store w =
    let same = theirs_next a b reading store x w w (agrees x a b reading store w) in
    ap (λ (s : Shown). s.answer) (shows_same a b reading store x _ _ same)

-- ---- what a turn leaves alone

pub turn_changes : TurnKeeps
unfolding turned_of
turn_changes x a b reading store w =
    let mine : Own = own_of x w in (
      others x _ _ w,
      λ i out. ap (λ (m : List ℕ). get_or m i 0) (main_with x _ _ w) ∙ turn_keeps (fence_of x a b) (fence_of (other x) a b) reading store w.main mine.local mine.state i out,
    )

-- nothing, where it did not run
pub idle_keeps : IdleKeeps
unfolding turned_of
idle_keeps x a b reading store w = by o.answer refl
  where
    mine : Own
    mine = own_of x w

    o : Outcome Cycled
    o = turn_of (fence_of x a b) (fence_of (other x) a b) reading store w.main mine.local mine.state

    as_it_was : (x : Board) → with x (own_of x w) w.main w ≡ w
    as_it_was A = refl
    as_it_was B = refl

    kept : {t : State} → Kept w.main mine.local mine.state t o → state_in o.answer ≡ t → (turned_of x a b reading store w).after ≡ w
    kept k e = (λ i. with x (own ((e ∙ k.state) i) (k.in_local i)) (k.in_main i) w) ∙ as_it_was x

    by : (r : Cycled) → o.answer ≡ r → is_ran o.answer ≡ false → (turned_of x a b reading store w).after ≡ w
    by (C.Ran t) e idle = absurd (true_not_false (ap is_ran e) idle)
    by (C.Stopped t) e idle = kept (turn_stops (fence_of x a b) (fence_of (other x) a b) reading store w.main mine.local mine.state t e) (ap state_in e)
    by (C.Refused t why) e idle = kept (turn_refuses (fence_of x a b) (fence_of (other x) a b) reading store w.main mine.local mine.state t why e) (ap state_in e)

pub neither_changes : NeitherChanges
unfolding after_turns
neither_changes [] a b reading store w i out-a out-b = refl
neither_changes (x ∷ xs) a b reading store w i out-a out-b =
    neither_changes xs a b reading store (turned_of x a b reading store w).after i out-a out-b ∙ (turn_changes x a b reading store w).1 i (out x)
  where
    out : (x : Board) → Beyond (fence_of x a b) i
    out A = out-a
    out B = out-b
