-- A store with no Write and no Store word. Assumes nothing.
use Prim.Native.Nat.{ℕ, zero, suc}
use mathlib.Core.Path.{◌≡◌, refl, sym, ap, ◌∙◌}
use mathlib.Core.List.{List}
use mathlib.Core.Bool.{Bool, false}
use borrow.Author.Tests.{leb-false}
use lib.ListN.{length, get_or, drop}
use Rattle.digits.proofs.Table.{any, each_in}
use Rattle.digits.proofs.Truth.{zero_one}
use Rattle.word.specs.Layout.{fields_of}
use Rattle.word.specs.declared.Fields.{Fields}
use Rattle.codes.specs.declared.Reading.{Reading}
use Rattle.storage.specs.Storage.{reads_local, idle, accesses, access_of}
use Rattle.storage.specs.declared.Access.{Access}
use Rattle.storage.specs.declared.Fence.{Fence}
use Rattle.storage.specs.declared.Seen.{Seen}
use Rattle.machine.specs.Cycle.{Outcome, seen_of, word_at, ran_of, cycle_in}
use Rattle.machine.specs.Sources.{entered}
use Rattle.machine.specs.declared.State.{State}
use Rattle.machine.specs.declared.Cycled.{Cycled}
use Rattle.machine.proofs.Promises.{ran_exactly, ran_fields}
use Rattle.run.specs.Divided.{writes, Quiet, QuietKeeps}
use Rattle.run.specs.declared.Finished.{Finished}
use Rattle.run.proofs.Goes.{Machine, Leads, lawful, goes_keep}
use Rattle.run.proofs.Promises.{run_goes}

-- a byte is put in the rows of Write and Store alone
puts_nothing : (cm : ℕ) (local : Bool) (s : Seen) → writes cm ≡ false → (get_or (accesses local s) cm (idle s)).puts ≡ false
puts_nothing zero local s h = absurd (zero_one cc)
puts_nothing (suc zero) local s h = refl
puts_nothing (suc (suc zero)) local s h = absurd (zero_one cc)
puts_nothing (suc (suc (suc cm))) local s h = any (λ (a : Access). a.puts ≡ false) (drop 3 (accesses local s)) (idle s) (refl, (refl, (refl, tt))) refl cm

-- the storages are these
abbrev pub Holding : List ℕ → List ℕ → Machine → Type 0
Holding main local m = (m.main ≡ main) × (m.local ≡ local)

ran_holds : (reading : Reading) (f : Fields) (main local : List ℕ) (s : State) → writes f.cm ≡ false → ((ran_of reading f main local s).main ≡ main) × ((ran_of reading f main local s).local ≡ local)
unfolding ran_of access_of
ran_holds reading f main local s h =
    let x : Seen = seen_of (entered f s) in
    let e = puts_nothing f.cm (reads_local f.cu x) x h in
    (rw e, rw e)

-- a cycle that ran, of a word that is neither
pub silent_holds : (fence : Fence) (reading : Reading) (store main local : List ℕ) (y z : Machine) → writes (fields_of (word_at store y.state)).cm ≡ false → Leads (cycle_in fence reading store) y z → Holding main local y → Holding main local z
silent_holds fence reading store main local y z h o (same-main, same-local) =
    let f : Fields = fields_of (word_at store y.state) in
    let does = o ∙ ran_fields fence reading store y.main y.local y.state z.state (ap (λ (x : Outcome Cycled). x.answer) (sym o)) in
    let (in_main, in_local) = ran_holds reading f y.main y.local y.state h in
    (ap (λ (x : Outcome Cycled). x.main) does ∙ in_main ∙ same-main, ap (λ (x : Outcome Cycled). x.local) does ∙ in_local ∙ same-local)

-- every word of a quiet store is such a one
cycle_holds : (fence : Fence) (reading : Reading) (store : List ℕ) → Quiet store → (main local : List ℕ) (y z : Machine) → Leads (cycle_in fence reading store) y z → Holding main local y → Holding main local z
cycle_holds fence reading store quiet main local y z o =
    let s : State = y.state in
    let (none, on) = (ran_exactly fence reading store y.main y.local s).0 (z.state, ap (λ (x : Outcome Cycled). x.answer) (sym o)) in
    let word = each_in (λ (word : ℕ). writes (fields_of word).cm ≡ false) store 0 quiet s.wx (leb-false (length store) s.wx none.1.0) in
    silent_holds fence reading store main local y z word o

pub quiet_keeps : QuietKeeps
quiet_keeps fence reading budget store main local s whole quiet e =
    let held = goes_keep (Holding main local) (cycle_holds fence reading store quiet main local) (run_goes (lawful fence reading store) budget main local s) (refl, refl) in
    (ap (λ (x : Outcome Finished). x.main) e ∙ held.0, ap (λ (x : Outcome Finished). x.local) e ∙ held.1)
