-- The entry of the words of AP and SP, and its promise. Assumes nothing.
use Prim.Native.Nat.{ℕ, ◌<◌}
use mathlib.Core.Path.{◌∙◌}
use native.Mathlib.Omega.{arith}
use lib.ListN.{get_or}
use Rattle.codes.specs.declared.Reading.TheVariants.{Basic}
use Rattle.run.specs.Run.{run_in}
use Rattle.decimal.specs.Entry.{start_with, bound, entry_of}
use Rattle.apsp.specs.Entry.{DONE, signed_of}
use Rattle.apsp.proofs.Kept.{with_promise}
use Rattle.apsp.proofs.add.Goals as goal

pub returns : goal.returns
unfolding signed_of
returns c =
    let bytes : (i : ℕ) → get_or c.args.main.now i 0 < 256 = λ i. omega (arith, c.slice_known-1.given i) in
    let a = c.args in
    let both = with_promise a.main.now a.local.now a.first a.second a.length a.subtract (bytes) _ _ _
    (c.entry.ensures
    ∙ (λ i. entry_of DONE (c.whole.ensures i) (run_in (bound a.length) (c.whole.ensures i) Basic (c.words.ensures i) a.main.now a.local.now (start_with a.first a.second a.length (c.with_bit-status.ensures i))) a.main.now a.local.now a.first a.second a.length)) in
    record { run = both.0; promise = both.1 }
