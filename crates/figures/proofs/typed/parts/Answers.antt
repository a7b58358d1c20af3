-- By the marks, in the order of the definition. Assumes nothing.
use native.Mathlib.Omega.{arith}
use borrow.Author.Rules.{rules}
use Rattle.figures.proofs.Marks.{first_mark, last_mark, sign_itself, no_sign, nothing}
use Rattle.figures.proofs.typed.parts.Goals as goal
use Rattle.figures.proofs.typed.parts.Goals.{in_default-via-then-text-lt1, in_default-via-in-len1-up+else-is_mark+then-text-lt1-2, in_default-via-in-len1-up-2+else-is_mark-2+then-text-lt2, in_default-via-in-len1-up-2+else-is_mark-2+else-text-lt2+in_default-1}

pub returns-in-len1-up : goal.returns-in-len1-up
returns-in-len1-up c = rw c.sign_for.ensures (first_mark c.args.text.now c.if-is_mark.ensures)

pub returns-in-len1-up-2 : goal.returns-in-len1-up-2
returns-in-len1-up-2 c = rw c.sign_for-in-len1-up-2.ensures (last_mark c.args.text.now c.in-len1-up.len_at_least c.if-is_mark.ensures c.if-is_mark-2.ensures)

pub returns-in-58 : goal.returns-in-58
returns-in-58 c = sign_itself c.args.text.now c.in-len1-up.len_at_least c.if-is_mark.ensures c.if-is_mark-2.ensures c.in-58.len_at_least (omega arith)

pub returns-in_default : goal.returns-in_default
returns-in_default c =
    let text = c.args.text.now in
    elim c.in_default.branch [
      | in_default-via-then-text-lt1 w ↦ nothing text (search rules)
      | in_default-via-in-len1-up+else-is_mark+then-text-lt1-2 w ↦ absurd (search rules)
      | in_default-via-in-len1-up-2+else-is_mark-2+then-text-lt2 w ↦ no_sign text w.in-len1-up.len_at_least w.if-is_mark.ensures w.if-is_mark-2.ensures (λ h e. search rules)
      | in_default-via-in-len1-up-2+else-is_mark-2+else-text-lt2+in_default-1 w ↦ no_sign text w.in-len1-up.len_at_least w.if-is_mark.ensures w.if-is_mark-2.ensures (λ h e. search rules)
    ]
