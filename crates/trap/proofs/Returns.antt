-- A trap, and a return word at once. Assumes nothing.
use Prim.Native.Nat.{ℕ}
use mathlib.Core.Path.{◌≡◌, sym, ap, ◌∙◌}
use mathlib.Core.List.{List, [], ◌∷◌}
use mathlib.Core.Bool.{true, false, cond}
use borrow.Author.Tests.{eqb-true, not-true}
use lib.Dec.{eqb}
use lib.ListN.{get_or}
use Rattle.digits.specs.Bits.{with_bit}
use Rattle.digits.proofs.Truth.{both}
use Rattle.word.specs.Layout.{fields_of}
use Rattle.word.specs.Parity.{is_return}
use Rattle.word.specs.declared.Fields.{Fields}
use Rattle.codes.specs.Status.{statuses}
use Rattle.codes.specs.declared.Reading.{Reading}
use Rattle.storage.specs.Storage.{reads_local, idle, accesses, access_of, main_after, local_after}
use Rattle.storage.specs.declared.Fence.{Fence}
use Rattle.storage.specs.declared.Seen.{Seen}
use Rattle.adder.specs.declared.Sum.{Sum}
use Rattle.machine.specs.Sources.{entered, sum_in}
use Rattle.machine.specs.Branch.{next_of}
use Rattle.machine.specs.Status.{into, saves, status_of}
use Rattle.machine.specs.Cycle.{Outcome, outcome, seen_of, word_at, ran_of, cycle_in}
use Rattle.machine.specs.declared.State.{State}
use Rattle.machine.specs.declared.Cycled.{Cycled}
use Rattle.machine.specs.declared.Cycled.TheVariants as C
use Rattle.machine.proofs.Cycles.{after_fields}
use Rattle.machine.proofs.Promises.{ran_fields}
use Rattle.trap.specs.Trap.{standing_at}
use Rattle.trap.specs.Return.{Returns, resumed_at, TrapReturns, registers_of, changes_none, TrapKeeps}
use Rattle.trap.proofs.Calls.{taken_is}

-- ---- the return word

after_is : (fence : Fence) (reading : Reading) (store main local : List ℕ) (s u : State) → (cycle_in fence reading store main local s).answer ≡ C.Ran u → after_fields reading (fields_of (word_at store s)) main local s ≡ u
unfolding ran_of
after_is fence reading store main local s u e =
    let same : C.Ran (after_fields reading (fields_of (word_at store s)) main local s) ≡ C.Ran u = sym (ap (λ (o : Outcome Cycled). o.answer) (ran_fields fence reading store main local s u e)) ∙ e in
    cc

pub returns : Returns
unfolding next_of entered
returns fence reading store main local s u e =
    let is = after_is fence reading store main local s u e in (
      λ h. record {
        next = ap (λ (x : State). x.wx) (sym is) ∙ rw h;
        held = ap (λ (x : State). x.fwx) (sym is);
        closed = ap (λ (x : State). x.owed) (sym is) ∙ rw h;
      },
      λ h. record {
        held = ap (λ (x : State). x.fwx) (sym is);
        owed = ap (λ (x : State). x.owed) (sym is) ∙ rw h;
      },
    )

-- ---- a trap, and a return word at once

-- the fields of a return word read neither WX nor FWX nor the latch but for the next address
ran_resumes : (reading : Reading) (f : Fields) (main local : List ℕ) (address wx : ℕ) (s : State) → is_return f ≡ true
    → ran_of reading f main local (standing_at address wx true s) ≡ outcome (resumed_at wx (ran_of reading f main local s).answer) (ran_of reading f main local s).main (ran_of reading f main local s).local
unfolding ran_of entered sum_in next_of access_of
ran_resumes reading f main local address wx s h = rw h

pub trap_returns : TrapReturns
trap_returns fence reading store main local address s t u o taken h ran e =
    let f : Fields = fields_of (word_at store t) in
    let (none, is) = taken_is address s t taken in
    ran_fields fence reading store main local t u ran
    ∙ ap (ran_of reading f main local) (sym is)
    ∙ ran_resumes reading f main local address s.wx s h
    ∙ ap (λ (x : Outcome Cycled). outcome (resumed_at s.wx x.answer) x.main x.local) (sym e)

-- ---- where the return word changes no register

fields_keep : (reading : Reading) (f : Fields) (main local : List ℕ) (s : State) → changes_none f ≡ true
    → (registers_of (after_fields reading f main local s) ≡ registers_of (entered f s)) × (((ran_of reading f main local s).main ≡ main) × ((ran_of reading f main local s).local ≡ local))
unfolding ran_of access_of status_of
fields_keep reading f main local s h =
    let (is-cm, k) = both (eqb f.cm 1) _ h in
    let (is-cd, l) = both (eqb f.cd 0) _ k in
    let (is-cs, n) = both (eqb f.cs 0) _ l in
    let cm : f.cm ≡ 1 = eqb-true f.cm 1 is-cm in
    let cd : f.cd ≡ 0 = eqb-true f.cd 0 is-cd in
    let cs : f.cs ≡ 0 = eqb-true f.cs 0 is-cs in
    let none : saves f.cc ≡ false = not-true (saves f.cc) n in
    let e : State = entered f s in
    let z : Sum = sum_in f e in
    let to : (code old : ℕ) → into code f.cd z.result old ≡ into code 0 z.result old = λ code old i. into code (cd i) z.result old in
    let changed : (old : ℕ) → get_or (statuses reading z.result old) f.cs old ≡ old = λ old i. get_or (statuses reading z.result old) (cs i) old in
    let x : Seen = seen_of e in
    let access : access_of f x ≡ idle x = λ i. get_or (accesses (reads_local f.cu x) x) (cm i) (idle x) in
    let status : status_of reading f z (into 6 f.cd z.result e.s) ≡ e.s =
    (λ i. cond (none i) (with_bit (get_or (statuses reading z.result (to 6 e.s i)) f.cs (to 6 e.s i)) 3 z.ac) (get_or (statuses reading z.result (to 6 e.s i)) f.cs (to 6 e.s i)))
    ∙ changed e.s in (
      λ i. to 15 e.i i ∷ to 14 e.j i ∷ to 13 e.u i ∷ to 12 e.v i ∷ to 9 e.l i ∷ to 11 e.t i ∷ to 8 e.d i ∷ to 7 e.r i ∷ status i
          ∷ to 10 e.g i ∷ to 5 e.h i ∷ (access i).m ∷ (access i).n ∷ [],
      (λ i. main_after main (access i) e.r, λ i. local_after local (access i) e.r),
    )

pub trap_leaves : TrapKeeps
unfolding entered
trap_leaves fence reading store main local address s t u taken h none ran =
    let f : Fields = fields_of (word_at store t) in
    let (checks, is) = taken_is address s t taken in
    let (registers, (in_main, in_local)) = fields_keep reading f main local t none in
    let does = ran_fields fence reading store main local t u ran in (
      ap registers_of (sym (after_is fence reading store main local t u ran)) ∙ registers ∙ ap (λ (x : State). registers_of (entered f x)) (sym is),
      (ap (λ (o : Outcome Cycled). o.main) does ∙ in_main, ap (λ (o : Outcome Cycled). o.local) does ∙ in_local),
    )
