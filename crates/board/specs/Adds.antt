-- What `board add`, `board ap` and `board sp` lay out, run and say. Assumes nothing.
use Rattle.std.specs.Prelude.{ℕ, ◌+◌, ◌/◌, max, Bool, true, false, List, length, take, drop, replicate}
use Rattle.digits.specs.Lent.{over_at}
use Rattle.machine.specs.Cycle.{Outcome}
use Rattle.decimal.specs.Entry.{add_of}
use Rattle.decimal.specs.declared.Added.{Added}
use Rattle.arguments.specs.Arguments.{laid}
use Rattle.apsp.specs.Entry.{signed_of}
use Rattle.results.specs.Results.{result_of}
use Rattle.board.specs.declared.add.Operation.{Operation}
use Rattle.board.specs.declared.add.Operation.TheVariants as O

-- the fields' starts
abbrev pub first_start : ℕ
first_start = 0x100

abbrev pub second_start : ℕ
second_start = 0x200

-- as many bytes as the longer of two numbers takes, by how many digits they have
abbrev pub field_length : ℕ → ℕ → ℕ
field_length first second = (max first second + 1) / 2

-- the two numbers, each at the right end of its field of n bytes
abbrev pub laid_out : ℕ → List ℕ → List ℕ → List ℕ → List ℕ
laid_out n first second main = over_at second_start (laid n second) (over_at first_start (laid n first) main)

-- with signs, each number's last digit is its sign
abbrev pub has_signs : Operation → Bool
has_signs (O.Add carry) = false
has_signs (O.Signed subtract) = true

-- the answer of the operation's own entry
abbrev pub answer_of : Operation → List ℕ → List ℕ → ℕ → Outcome Added
answer_of (O.Add carry) main local n = add_of main local first_start second_start n carry
answer_of (O.Signed subtract) main local n = signed_of main local first_start second_start n subtract

-- on the two numbers, in main storage of 1,024 bytes and local storage that are otherwise zero
unfoldable pub added_of : Operation → List ℕ → List ℕ → Outcome Added
added_of operation first second =
    let n : ℕ = field_length (length first) (length second) in
    answer_of operation (laid_out n first second (replicate 1024 0)) (replicate 256 0) n

-- and what that came to
unfoldable pub said_of : Operation → List ℕ → List ℕ → List ℕ
said_of operation first second =
    let o : Outcome Added = added_of operation first second in
    result_of (has_signs operation) (take (field_length (length first) (length second)) (drop first_start o.main)) o.answer
