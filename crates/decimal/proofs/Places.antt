-- Where a program stands between its blocks of words, and what leads from one place to the next. It names no program. Assumes nothing.
use Prim.Native.Nat.{ℕ, ◌+◌, ◌*◌, ◌/◌, ◌%◌, ◌<◌}
use mathlib.Core.Path.{◌≡◌, refl, sym, ap, subst, ◌∙◌}
use mathlib.Core.List.{List}
use mathlib.Core.Bool.{Bool, true, false, cond, ◌&&◌}
use native.Mathlib.Omega.{arith}
use borrow.Author.Tests.{eqb-true, eqb-false}
use lib.Dec.{T, eqb}
use Rattle.digits.specs.Bits.{one, bit, with_bit}
use Rattle.digits.specs.Table.{among}
use Rattle.digits.proofs.Bits.{bit_with, bit_other}
use Rattle.storage.specs.declared.Fence.{Fence}
use Rattle.adder.proofs.Laws.{arithmetic}
use Rattle.machine.specs.Cycle.{stops}
use Rattle.machine.specs.declared.State.{State}
use Rattle.codes.specs.declared.Reading.TheVariants.{Basic}
use Rattle.run.proofs.Goes.{Machine, machine, Halts, Goes, join, Right, lawful, goes_right}
use Rattle.decimal.specs.Program.{Microword}
use Rattle.decimal.proofs.Steps.{made, basic, idle, Has, Turn, walked, Way, all_going, turns, walk, fields_at, stop}

-- ---- what is seen of a state

-- X7 by a test, and X6 and X7 by one each, where W is 0
abbrev pub branch : ℕ → Bool → ℕ
branch even test = 0 + (even + one test)

abbrev pub fork : ℕ → Bool → Bool → ℕ
fork first high low = 0 + (first + one high * 2 + one low)

-- the bits of S that a program keeps; S3 is any word's
pub record Marks : Type 0 where
  pub s0 : Bool
  pub s2 : Bool
  pub s4 : Bool
  pub s6 : Bool
  pub s7 : Bool

abbrev pub marked : Bool → Bool → Bool → Bool → Bool → Marks
marked s0 s2 s4 s6 s7 = record { s0 = s0; s2 = s2; s4 = s4; s6 = s6; s7 = s7 }

unfoldable pub marks : ℕ → Marks
marks s = marked (bit s 0) (bit s 2) (bit s 4) (bit s 6) (bit s 7)

-- an address by its two registers
abbrev pub halves : ℕ → ℕ × ℕ
halves a = (a / 256 % 256, a % 256)

-- the carry that H stands for: what H and FF make
abbrev pub carries : ℕ → Bool
carries h = (arithmetic false h 255 0).ac

-- I and J, U and V, L, T, the carry in H, the bits of S
pub record View : Type 0 where
  pub first : ℕ × ℕ
  pub second : ℕ × ℕ
  pub l : ℕ
  pub t : ℕ
  pub carry : Bool
  pub status : Marks

-- two addresses and what else is seen
abbrev pub view : ℕ → ℕ → ℕ → ℕ → Bool → Marks → View
view a b l t c m = record { first = halves a; second = halves b; l = l; t = t; carry = c; status = m }

-- a state shows a view
pub record Sees (s : State) (v : View) : Type 0 where
  pub first : (s.i, s.j) ≡ v.first
  pub second : (s.u, s.v) ≡ v.second
  pub l : s.l ≡ v.l
  pub t : s.t ≡ v.t
  pub carry : carries s.h ≡ v.carry
  pub status : marks s.s ≡ v.status

-- a state with the registers of a view; H and S are its own
abbrev pub showing : View → ℕ → State → State
showing v wx s = made v.first v.second v.l v.t wx false false false 0 s

-- ---- places

-- an address, what stands in main storage, and what is known of the state
pub record Place : Type 1 where
  pub wx : ℕ
  pub main : List ℕ
  pub Known : State → Type 0

abbrev pub at : ℕ → List ℕ → View → Place
at wx main v = record { wx = wx; main = main; Known = λ (s : State). Sees s v }

-- of which more is known: of D and R
abbrev pub at_with : ℕ → List ℕ → View → (ℕ → ℕ → Type 0) → Place
at_with wx main v Holds = record { wx = wx; main = main; Known = λ (s : State). Sees s v × Holds s.d s.r }

abbrev pub in_d : ℕ → ℕ → ℕ → Type 0
in_d byte d r = d ≡ byte

abbrev pub in_r : ℕ → ℕ → ℕ → Type 0
in_r byte d r = r ≡ byte

-- of which nothing more is known
abbrev pub resting : ℕ → List ℕ → Place
resting wx main = record { wx = wx; main = main; Known = λ (s : State). Unit {0} }

-- with this in S3
abbrev pub ended : ℕ → List ℕ → Bool → Place
ended wx main on = record { wx = wx; main = main; Known = λ (s : State). bit s.s 3 ≡ on }

module _ (fence : Fence) (store local : List ℕ) where
  -- k cycles from a machine to a place
  pub record Reaches (k : ℕ) (m : Machine) (q : Place) : Type 0 where
    pub x : State
    pub goes : Goes (basic fence store) k m (machine (idle q.wx x) q.main local)
    pub known : q.Known x

  -- from every state of one place to a state of another
  abbrev pub Block : ℕ → Place → Place → Type 0
  Block k p q = (x : State) → Right store (machine x p.main local) → p.Known x → Reaches k (machine (idle p.wx x) p.main local) q

  -- one after the other
  pub on : {j k : ℕ} {m : Machine} {q r : Place} → Right store m → Reaches j m q → Block k q r → Reaches (j + k) m r
  on right y c =
      let z = c y.x (goes_right (lawful fence Basic store) y.goes right) y.known in
      record { x = z.x; goes = join y.goes z.goes; known = z.known }

  pub then : {j k : ℕ} {p q r : Place} → Block j p q → Block k q r → Block (j + k) p r
  then b c x right known = on right (b x right known) c

  -- the same count and place in other words
  pub told : {j k : ℕ} {m : Machine} {q q' : Place} → j ≡ k → q ≡ q' → Reaches j m q → Reaches k m q'
  told {j} {k} {m} {q} {q'} e f r = subst (λ (n : ℕ). Reaches n m q') e (subst (Reaches j m) f r)

  pub said : {j k : ℕ} {p q q' : Place} → j ≡ k → q ≡ q' → Block j p q → Block k p q'
  said e f b x right known = told e f (b x right known)

  -- it is enough to look at a state that shows the view
  pub look_with : {k : ℕ} {q : Place} (wx : ℕ) (main : List ℕ) (v : View) (Holds : ℕ → ℕ → Type 0)
      → ((x : State) → Right store (machine x main local) → carries x.h ≡ v.carry → marks x.s ≡ v.status → Holds x.d x.r → Reaches k (machine (showing v wx x) main local) q)
      → Block k (at_with wx main v Holds) q
  look_with {k} {q} wx main v Holds f x right (known, more) =
      subst (λ (s : State). Reaches k (machine s main local) q) (λ i. made (sym known.first i) (sym known.second i) (sym known.l i) (sym known.t i) wx false false false 0 x)
      (f x right known.carry known.status more)

  pub look : {k : ℕ} {q : Place} (wx : ℕ) (main : List ℕ) (v : View)
      → ((x : State) → Right store (machine x main local) → carries x.h ≡ v.carry → marks x.s ≡ v.status → Reaches k (machine (showing v wx x) main local) q)
      → Block k (at wx main v) q
  look wx main v f x right known = look_with wx main v (λ (d : ℕ) (r : ℕ). Unit {0}) (λ x right carry status more. f x right carry status) x right (known, tt)

  -- k cycles to a stop at another word than this, with this in main storage
  pub record Refuses (done k : ℕ) (m : Machine) (main : List ℕ) : Type 0 where
    pub x : State
    pub goes : Goes (basic fence store) k m (machine x main local)
    pub stops : Halts (basic fence store) (machine x main local)
    pub apart : eqb x.wx done ≡ false

  -- from every state of a place
  abbrev pub Refusing : ℕ → ℕ → Place → List ℕ → Type 0
  Refusing done k p main = (x : State) → Right store (machine x p.main local) → p.Known x → Refuses done k (machine (idle p.wx x) p.main local) main

  pub on_refuses : {done j k : ℕ} {m : Machine} {q : Place} {main : List ℕ} → Right store m → Reaches j m q → Refusing done k q main → Refuses done (j + k) m main
  on_refuses right y r =
      let z = r y.x (goes_right (lawful fence Basic store) y.goes right) y.known in
      record { x = z.x; goes = join y.goes z.goes; stops = z.stops; apart = z.apart }

  pub then_refuses : {done j k : ℕ} {p q : Place} {main : List ℕ} → Block j p q → Refusing done k q main → Refusing done (j + k) p main
  then_refuses b r x right known = on_refuses right (b x right known) r

-- ---- words that lead to a place

-- they come to it, with nothing under way in storage
pub record Walks (fence : Fence) (program : List Microword) (local : List ℕ) (ws : List Turn) (m : Machine) (q : Place) : Type 0 where
  pub way : Way program fence ws m
  pub rests : let z = walked program ws m in machine (idle z.state.wx z.state) z.main local ≡ z
  pub comes : (walked program ws m).state.wx ≡ q.wx
  pub stores : (walked program ws m).main ≡ q.main
  pub known : q.Known (walked program ws m).state

module _ (fence : Fence) (store : List ℕ) (program : List Microword) (places : List ℕ) (w : Has store program places) (local : List ℕ) where
  pub walks : (ws : List Turn) → T (all_going program places ws) → {m : Machine} {q : Place} → Right store m → Walks fence program local ws m q → Reaches fence store local (turns ws) m q
  walks ws t {m} {q} right r =
      let z : Machine = walked program ws m in
      record {
        x = z.state;
        goes = subst (λ (wx : ℕ). Goes (basic fence store) (turns ws) m (machine (idle wx z.state) q.main local)) r.comes
            (subst (λ (main : List ℕ). Goes (basic fence store) (turns ws) m (machine (idle z.state.wx z.state) main local)) r.stores
            (subst (Goes (basic fence store) (turns ws) m) (sym r.rests) (walk fence store program places w ws t m right r.way)));
        known = r.known;
      }

  -- a stop
  pub refuse : (done wx : ℕ) → T (among wx places && stops (fields_at program wx)) → eqb wx done ≡ false → {k : ℕ} {p : Place} (main : List ℕ)
      → Block fence store local k p (resting wx main) → Refusing fence store local done k p main
  refuse done wx t e main b x right known =
      let y = b x right known in
      record {
        x = idle wx y.x;
        goes = y.goes;
        stops = stop fence store program places w wx t (machine (idle wx y.x) main local) (goes_right (lawful fence Basic store) y.goes right) refl;
        apart = e;
      }

-- ---- the laws of marks

-- one bit of S changed
abbrev pub mark : ℕ → Bool → Marks → Marks
mark n on m = marked (cond (eqb n 0) on m.s0) (cond (eqb n 2) on m.s2) (cond (eqb n 4) on m.s4) (cond (eqb n 6) on m.s6) (cond (eqb n 7) on m.s7)

module _ (s n : ℕ) (on : Bool) (h : n < 8) where
  bit_after : (k : ℕ) → k < 8 → bit (with_bit s n on) k ≡ cond (eqb n k) on (bit s k)
  bit_after k l = by (eqb n k) refl
    where
      by : (t : Bool) → eqb n k ≡ t → bit (with_bit s n on) k ≡ cond t on (bit s k)
      by true e = ap (λ (j : ℕ). bit (with_bit s n on) j) (sym (eqb-true n k e)) ∙ bit_with s n on
      by false e = bit_other s n on k l h (λ f. eqb-false n k e (sym f))

  pub marks_with : marks (with_bit s n on) ≡ mark n on (marks s)
  unfolding marks
  marks_with = λ i. marked (bit_after 0 (omega arith) i) (bit_after 2 (omega arith) i) (bit_after 4 (omega arith) i) (bit_after 6 (omega arith) i) (bit_after 7 (omega arith) i)

-- bit by bit, for `simp`; S3 and S5 are none of them
module _ (s : ℕ) (on : Bool) where
  pub saved : marks (with_bit s 3 on) ≡ marks s
  saved = marks_with s 3 on (omega arith)

  pub marks_2 : marks (with_bit s 2 on) ≡ mark 2 on (marks s)
  marks_2 = marks_with s 2 on (omega arith)

  pub marks_4 : marks (with_bit s 4 on) ≡ mark 4 on (marks s)
  marks_4 = marks_with s 4 on (omega arith)

  pub marks_5 : marks (with_bit s 5 on) ≡ marks s
  marks_5 = marks_with s 5 on (omega arith)

  pub marks_6 : marks (with_bit s 6 on) ≡ mark 6 on (marks s)
  marks_6 = marks_with s 6 on (omega arith)

  pub marks_7 : marks (with_bit s 7 on) ≡ mark 7 on (marks s)
  marks_7 = marks_with s 7 on (omega arith)
