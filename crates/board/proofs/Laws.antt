-- Two numbers laid out, which the decimal entry takes. Assumes nothing.
use Rattle.std.proofs.Common.{◌≡◌, ℕ, ◌+◌, ◌-◌, ◌<◌, ◌≤◌, None, List, length, take, drop, replicate, ap, ◌∙◌, arith, le-ltb, lt-ltb}
use native.Mathlib.Nat.{add-sub_cancel_left}
use Rattle.digits.specs.Refusal.{first}
use Rattle.storage.specs.Storage.{whole}
use Rattle.machine.specs.Cycle.{Outcome, outcome}
use Rattle.run.specs.declared.Finished.{Finished}
use Rattle.decimal.specs.Entry.{add_checks, from_run, entry_of}
use Rattle.decimal.proofs.Kept.{accepts}
use Rattle.decimal.specs.declared.Added.{Added}
use Rattle.results.specs.Results.{result_of}
use Rattle.board.specs.Adds.{first_start, second_start, field_length, laid_out, has_signs, answer_of, added_of, said_of}
use Rattle.board.specs.declared.add.Operation.{Operation}

-- 1 to 16 bytes an entry takes
taken : (n : ℕ) → 0 < n → n ≤ 16 → first (add_checks whole 1024 256 first_start second_start n) ≡ None
taken n p h =
    rw (le-ltb n 1 (omega arith), le-ltb 16 n h, le-ltb 1024 (256 + n) (omega arith), le-ltb 65536 (256 + n) (omega arith), le-ltb 1024 (512 + n) (omega arith), le-ltb 65536 (512 + n) (omega arith), lt-ltb 256 (512 + n) (omega arith), le-ltb 512 (256 + n) (omega arith))

-- and answers from its run
pub entered : (done : ℕ) (run : Outcome Finished) (main local : List ℕ) (n : ℕ) → (0 < n) × (n ≤ 16) → (length main ≡ 1024) × (length local ≡ 256) → from_run done run ≡ entry_of done whole run main local first_start second_start n
entered done run main local n (p, h) (e, f) = accepts done (add_checks whole (length main) (length local) first_start second_start n) run main local n (rw (e, f) (taken n p h))

-- what is said of the answer to them
pub said : (operation : Operation) (first second : List ℕ) (n : ℕ) (main m l : List ℕ) (r : Added) → n ≡ field_length (length first) (length second)
    → main ≡ laid_out n first second (replicate 1024 0) → outcome r m l ≡ answer_of operation main (replicate 256 0) n
    → result_of (has_signs operation) (take (first_start + n - first_start) (drop first_start m)) r ≡ said_of operation first second
unfolding added_of said_of
said operation first second n main m l r e f o =
    let k : first_start + n - first_start ≡ n = add-sub_cancel_left first_start n in
    let w : outcome r m l ≡ added_of operation first second =
    o ∙ ap (λ (x : List ℕ). answer_of operation x (replicate 256 0) n) f
    ∙ ap (λ (x : ℕ). answer_of operation (laid_out x first second (replicate 1024 0)) (replicate 256 0) x) e in
    rw (k, e) (ap (λ (x : Outcome Added). result_of (has_signs operation) (take (field_length (length first) (length second)) (drop first_start x.main)) x.answer) w)
