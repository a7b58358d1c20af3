-- What each function of panel.h answers, and what it leaves in all it is lent. Assumes nothing.
use Rattle.std.specs.Prelude.{ℕ, ◌+◌, ◌*◌, ◌/◌, ◌%◌, ◌^◌, List, [], ◌∷◌, true, false, cond, not, ◌||◌, eqb, ltb, ℤ, length, set, Option, Some, None, Result, Ok, Err}
use Rattle.digits.specs.Bits.{one}
use Rattle.digits.specs.Refusal.{refusal_number, refusal_field}
use Rattle.digits.specs.declared.refusal.Refusal.{Refusal}
use Rattle.digits.specs.declared.refusal.Refusal.TheVariants as R
use Rattle.adder.specs.declared.Work.{Work}
use Rattle.word.specs.Word.{taken_apart, packed}
use Rattle.word.specs.declared.Fields.{Fields}
use Rattle.codes.specs.declared.Reading.{Reading}
use Rattle.codes.specs.declared.Reading.TheVariants.{Basic, Compatibility}
use Rattle.machine.specs.Cycle.{Outcome, outcome, cycle_of, next_sum_of}
use Rattle.storage.specs.declared.Fence.{Fence}
use Rattle.trap.specs.Trap.{trap_of}
use Rattle.machine.specs.declared.State.{State}
use Rattle.machine.specs.declared.Cycled.{Cycled}
use Rattle.machine.specs.declared.Cycled.TheVariants as C
use Rattle.run.specs.Run.{run_of}
use Rattle.run.specs.declared.Finished.{Finished}
use Rattle.run.specs.declared.Ending.{Ending}
use Rattle.run.specs.declared.Ending.TheVariants as E
use Rattle.decimal.specs.Program.{shipped}
use Rattle.decimal.specs.Entry.{start, add_of}
use Rattle.decimal.specs.declared.Added.{Added}
use Rattle.decimal.specs.declared.Added.TheVariants as D
use Rattle.apsp.specs.Program.{signed_words}
use Rattle.apsp.specs.Entry.{signed_start, signed_of}
use Rattle.session.specs.Turn.{turn_of}
use Rattle.session.specs.Adding.{fenced_add}
use Rattle.digits.specs.Lent.{over}
use Rattle.deck.specs.Deck.{read_of, words_after, write_of, deck_after}
use Rattle.signed.specs.Signed.{read_signed, write_signed, field_after}
use Rattle.channels.specs.Lamps.{width, kinds_of}
use Rattle.channels.specs.Channels.{record_length, work_channels, saved, loaded, worked}
use Rattle.panel.specs.Fields.{field_bytes, fields_in}

-- enum panel_kind
abbrev pub RAN : ℕ
RAN = 0

abbrev pub STOPPED : ℕ
STOPPED = 1

abbrev pub REFUSED : ℕ
REFUSED = 2

abbrev pub SPENT : ℕ
SPENT = 3

abbrev pub SUMMED : ℕ
SUMMED = 4

abbrev pub BAD-DIGIT : ℕ
BAD-DIGIT = 5

-- "kind + 256 * refusal number + 65536 * field of refusal 10 (else 0)"
abbrev pub coded : ℕ → ℕ → ℕ → ℕ
coded kind number field = kind + 256 * number + 65536 * field

-- ".. and 2^32 * the cycles that ran"
abbrev pub counted : ℕ → ℕ → ℕ
counted code count = code + 2 ^ 32 * count

-- "0, .. or the refusal's number"
abbrev pub status : {A : Type 0} → Result A Refusal → ℕ
status (Ok x) = 0
status (Err r) = refusal_number r

-- "the count of words, or of bytes, that were written, and 65536 * refusal number (the count is then 0)"
abbrev pub count_of : Result ℕ Refusal → ℕ
count_of (Ok count) = count
count_of (Err r) = 65536 * refusal_number r

-- PANEL_REFUSED, with 10's field
abbrev pub refused : Refusal → ℕ
refused r = coded REFUSED (refusal_number r) (refusal_field r)

-- ---- a word

-- a number, and what was lent to be written as it then is
pub record Answered (A : Type 0) : Type 0 where
  pub number : ℕ
  pub lent : List A

abbrev pub answered : {A : Type 0} → ℕ → List A → Answered A
answered number lent = record { number = number; lent = lent }

-- "0, with the 18 fields other than PN, PA, PS and PC written in word order, one to a byte; or the refusal's number."
abbrev pub answer_apart : Result Fields Refusal → List ℕ → Answered ℕ
answer_apart (Ok f) fields = answered 0 (over (field_bytes f) fields)
answer_apart (Err r) fields = answered (refusal_number r) fields

-- "19 where fewer than 18 bytes are lent, checked first."
unfoldable pub take_apart_call : ℕ → ℕ → List ℕ → Answered ℕ
take_apart_call word address fields = cond (ltb (length fields) 18) (answered 19 fields) (answer_apart (taken_apart word address) fields)

-- "0, with the word written to word[0]; or the refusal's number."
abbrev pub answer_packed : Result ℕ Refusal → List ℕ → Answered ℕ
answer_packed (Ok w) word = answered 0 (over (w ∷ []) word)
answer_packed (Err r) word = answered (refusal_number r) word

-- "19 where fewer than 18 fields or no word are lent, checked first; further bytes are not read."
unfoldable pub pack_call : List ℕ → ℕ → List ℕ → Answered ℕ
pack_call fields address word =
    cond (ltb (length fields) 18 || ltb (length word) 1) (answered 19 word) (answer_packed (packed (fields_in fields) address) word)

-- ---- a cycle, a run

-- a number, and both storages and the state's record as they then are
pub record Called : Type 0 where
  pub number : ℕ
  pub main : List ℕ
  pub local : List ℕ
  pub state : List ℕ

abbrev pub called : ℕ → List ℕ → List ℕ → List ℕ → Called
called number main local state = record { number = number; main = main; local = local; state = state }

-- a record that is too short: "19 where fewer than PANEL_STATE bytes of state are lent, checked first"
abbrev pub short : List ℕ → List ℕ → List ℕ → Called
short main local state = called (refused R.Room) main local state

-- PANEL_RAN, PANEL_STOPPED or PANEL_REFUSED; the record is written by a cycle that ran, and by nothing else
abbrev pub answer_cycle : Cycled → List ℕ → Answered ℕ
answer_cycle (C.Ran s) state = answered (coded RAN 0 0) (over (saved s) state)
answer_cycle (C.Stopped s) state = answered (coded STOPPED 0 0) state
answer_cycle (C.Refused s r) state = answered (refused r) state

abbrev pub cycled_by : Outcome Cycled → List ℕ → Called
cycled_by o state = called (answer_cycle o.answer state).number o.main o.local (answer_cycle o.answer state).lent

-- 19, then one cycle of the record's state
unfoldable pub call_by : (State → Outcome Cycled) → List ℕ → List ℕ → List ℕ → Called
call_by cycle main local state = cond (ltb (length state) record_length) (short main local state) (cycled_by (cycle (loaded state)) state)

-- enum panel_reading: "Any other value than 0 is compatibility."
abbrev pub reading_of : ℕ → Reading
reading_of number = cond (eqb number 0) Basic Compatibility

abbrev pub cycle_call : Reading → List ℕ → List ℕ → List ℕ → List ℕ → Called
cycle_call reading store main local state = call_by (cycle_of reading store main local) main local state

-- "As panel_cycle; 19, then 1, then 32, then the cycle's own refusals, 11 by the board's own fence."
abbrev pub turn_call : Fence → Fence → Reading → List ℕ → List ℕ → List ℕ → List ℕ → Called
turn_call own other reading store main local state = call_by (turn_of own other reading store main local) main local state

-- PANEL_STOPPED, PANEL_REFUSED or PANEL_SPENT
abbrev pub ending_code : Ending → ℕ
ending_code E.Stopped = coded STOPPED 0 0
ending_code (E.Refused r) = refused r
ending_code E.Spent = coded SPENT 0 0

-- the record after so many cycles: where none ran, nothing is written, so that a latch byte of 7 stays 7
abbrev pub record_after : ℕ → State → List ℕ → List ℕ
record_after count s state = cond (eqb count 0) state (over (saved s) state)

abbrev pub ran_by : Outcome Finished → List ℕ → Called
ran_by r state =
    called (counted (ending_code r.answer.ending) r.answer.count) r.main r.local (record_after r.answer.count r.answer.state state)

unfoldable pub run_call : Reading → List ℕ → List ℕ → List ℕ → List ℕ → ℕ → Called
run_call reading store main local state budget =
    cond (ltb (length state) record_length) (short main local state) (ran_by (run_of budget reading store main local (loaded state)) state)

-- ---- a trap between two cycles

-- of a trap that is taken "nothing else moves": the bytes of WX, of FWX and of the latch alone are written
abbrev pub placed : State → List ℕ → List ℕ
placed t state = set (set (set (set (set state 13 (t.wx / 256)) 14 (t.wx % 256)) 24 (t.fwx / 256)) 25 (t.fwx % 256)) 26 (one t.owed)

-- "0, or 19, 29 or 30, and then nothing is changed"
abbrev pub answer_trap : Result State Refusal → List ℕ → Answered ℕ
answer_trap (Ok t) state = answered 0 (placed t state)
answer_trap (Err r) state = answered (refusal_number r) state

unfoldable pub trap_call : ℕ → List ℕ → Answered ℕ
trap_call address state = cond (ltb (length state) record_length) (answered 19 state) (answer_trap (trap_of address (loaded state)) state)

-- ---- the work of the word that would run next

-- "0, with PANEL_WORK bytes written; 1 where no sum would be made"
abbrev pub answer_next : Option Work → List ℕ → Answered ℕ
answer_next (Some w) work = answered 0 (over (worked w) work)
answer_next None work = answered 1 work

-- PANEL_WORK: 8
abbrev pub work_length : ℕ
work_length = width (kinds_of work_channels)

-- "19 where fewer than PANEL_STATE bytes of state or PANEL_WORK bytes of work are lent, checked first."
unfoldable pub next_sum_call : List ℕ → List ℕ → List ℕ → Answered ℕ
next_sum_call store state work =
    cond (ltb (length state) record_length || ltb (length work) work_length) (answered 19 work) (answer_next (next_sum_of store (loaded state)) work)

-- ---- the words of the two programs, and the state from which the entry of each runs them

-- "0, or 19 where fewer than PANEL_STATE bytes are lent"
abbrev pub started : State → List ℕ → Answered ℕ
started s state = cond (ltb (length state) record_length) (answered 19 state) (answered 0 (over (saved s) state))

-- "carry_in: off at 0, on otherwise"
unfoldable pub start_call : ℕ → ℕ → ℕ → ℕ → List ℕ → Answered ℕ
start_call first second n carry state = started (start first second n (not (eqb carry 0))) state

-- "subtract: off at 0, on otherwise"
unfoldable pub start_signed_call : ℕ → ℕ → ℕ → ℕ → List ℕ → Answered ℕ
start_signed_call first second n subtract state = started (signed_start first second n (not (eqb subtract 0))) state

-- "the number of words, or 65536 * 19"
abbrev pub handed : List ℕ → List ℕ → Answered ℕ
handed program words = cond (ltb (length words) (length program)) (answered (65536 * 19) words) (answered (length program) (over program words))

unfoldable pub shipped_call : List ℕ → Answered ℕ
shipped_call words = handed shipped words

unfoldable pub shipped_signed_call : List ℕ → Answered ℕ
shipped_signed_call words = handed signed_words words

-- ---- decimal add

-- "kind (PANEL_SUMMED, PANEL_BAD_DIGIT or PANEL_REFUSED) + 256 * refusal number + 65536 * carry out + 2^32 * the cycles that ran"
abbrev pub added_code : Added → ℕ
added_code (D.Summed carry count) = counted (coded SUMMED 0 (one carry)) count
added_code (D.BadDigit count) = counted (coded BAD-DIGIT 0 0) count
added_code (D.Refused r) = counted (coded REFUSED (refusal_number r) 0) 0

abbrev pub added_by : Outcome Added → Outcome ℕ
added_by o = outcome (added_code o.answer) o.main o.local

-- "carry_in: off at 0, on otherwise"
unfoldable pub add_decimal_call : List ℕ → List ℕ → ℕ → ℕ → ℕ → ℕ → Outcome ℕ
add_decimal_call main local first second n carry = added_by (add_of main local first second n (not (eqb carry 0)))

-- "The same inside a fence"
unfoldable pub add_decimal_in_call : Fence → List ℕ → List ℕ → ℕ → ℕ → ℕ → ℕ → Outcome ℕ
add_decimal_in_call fence main local first second n carry = added_by (fenced_add fence main local first second n (not (eqb carry 0)))

-- ---- decimal add and subtract with signs

-- the same code, with "65536 * overflow"
unfoldable pub add_signed_call : List ℕ → List ℕ → ℕ → ℕ → ℕ → Outcome ℕ
add_signed_call main local first second n = added_by (signed_of main local first second n false)

unfoldable pub sub_signed_call : List ℕ → List ℕ → ℕ → ℕ → ℕ → Outcome ℕ
sub_signed_call main local first second n = added_by (signed_of main local first second n true)

-- ---- a deck

unfoldable pub read_deck_call : List ℕ → List ℕ → Answered ℕ
read_deck_call deck words = answered (count_of (read_of deck (length words))) (words_after deck words)

unfoldable pub write_deck_call : List ℕ → List ℕ → Answered ℕ
write_deck_call words deck = answered (count_of (write_of words (length deck))) (deck_after words deck)

-- ---- a signed field

-- "0, with the number written to number[0]; or the refusal's number"; "then 19 where no number is lent"
abbrev pub answer_signed : Result ℤ Refusal → List ℤ → Answered ℤ
answer_signed (Ok z) number = cond (ltb (length number) 1) (answered 19 number) (answered 0 (over (z ∷ []) number))
answer_signed (Err r) number = answered (refusal_number r) number

unfoldable pub read_signed_call : List ℕ → List ℤ → Answered ℤ
read_signed_call field number = answer_signed (read_signed field) number

-- "0, with the field written; or the refusal's number"
unfoldable pub write_signed_call : ℤ → List ℕ → Answered ℕ
write_signed_call number field = answered (status (write_signed number field)) (field_after number field)
