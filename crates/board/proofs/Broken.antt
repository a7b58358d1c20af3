-- A run that traps break into, piece by piece. Assumes nothing.
use Rattle.std.proofs.Common.{◌≡◌, ℕ, ◌-◌, true, false, List, [], ◌∷◌, ◌++◌, sym, ◌∙◌, append_assoc}
use Rattle.codes.specs.declared.Reading.{Reading}
use Rattle.machine.specs.Cycle.{Outcome}
use Rattle.trap.specs.Trap.{trap_of, state_after}
use Rattle.machine.specs.declared.State.{State}
use Rattle.run.specs.Run.{run_of}
use Rattle.run.specs.declared.Finished.{Finished}
use Rattle.board.specs.Broken.{is_spent, broken_of, BrokenInto}

module _ (budget : ℕ) (reading : Reading) (store main₀ local₀ : List ℕ) (s₀ : State) where
  -- after some traps the run stands at a state, with so many cycles left; more traps may follow
  pub record BrokenTo (left : ℕ) (main local : List ℕ) (s : State) : Type 0 where
    pub traps : List (ℕ × ℕ)
    pub same : (more : List (ℕ × ℕ)) → broken_of (traps ++ more) budget reading store main₀ local₀ s₀ ≡ broken_of more left reading store main local s

  module _ {left : ℕ} {main local : List ℕ} {s : State} (b : BrokenTo left main local s) where
    -- a piece was run to its end, and a trap made
    pub goes_on_lem : (cycles address rest : ℕ) {o : Outcome Finished} {u : State} → o ≡ run_of cycles reading store main local s → is_spent o.answer.ending ≡ true → left - cycles ≡ rest
        → u ≡ state_after o.answer.state (trap_of address o.answer.state) → BrokenTo rest o.main o.local u
    unfolding broken_of
    goes_on_lem cycles address rest p spent e f =
        let trap : ℕ × ℕ = (cycles, address) in
        record { traps = b.traps ++ (trap ∷ []); same = λ more. rw (append_assoc b.traps (trap ∷ []) more) (b.same (trap ∷ more) ∙ rw (← p, spent, e, f)) }

    -- a piece up to a trap stopped or was refused
    pub ends_early : (cycles : ℕ) {o : Outcome Finished} → o ≡ run_of cycles reading store main local s → is_spent o.answer.ending ≡ false → BrokenInto budget reading store main₀ local₀ s₀ o
    unfolding broken_of
    ends_early cycles p ended =
        let trap : ℕ × ℕ = (cycles, 0) in
        record { traps = b.traps ++ (trap ∷ []); run = sym (b.same (trap ∷ []) ∙ rw (← p, ended)) }

    -- the last piece
    pub ends : {o : Outcome Finished} → o ≡ run_of left reading store main local s → BrokenInto budget reading store main₀ local₀ s₀ o
    unfolding broken_of
    ends p = record { traps = b.traps ++ []; run = p ∙ sym (b.same []) }
