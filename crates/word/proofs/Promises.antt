-- Exactly when each refusal is given, and that no second answer fits. Assumes nothing.
use Prim.Native.Nat.{ℕ}
use mathlib.Core.Path.{◌≡◌}
use mathlib.Core.Logic.{◌↔◌}
use Rattle.digits.specs.Line.{join}
use Rattle.std.specs.Prelude.{Option, Some, Result, Err}
use Rattle.digits.specs.Refusal.{Given}
use Rattle.digits.specs.declared.refusal.Refusal.{Refusal}
use Rattle.digits.proofs.Refusals.{exactly, given_first, first_given, result_tells}
use Rattle.digits.proofs.Sole.{sole}
use Rattle.word.specs.Layout.{widths, line_of, fields_of}
use Rattle.word.specs.Word.{fault_checks, fault_of, apart_checks, taken_apart, pack_checks, line_with, packed}
use Rattle.word.specs.declared.Fields.{Fields}
use Rattle.word.proofs.fields_of.Reads as fields_of_reads
use Rattle.word.proofs.fault.Reads as fault
use Rattle.word.proofs.take_apart.Reads as take_apart
use Rattle.word.proofs.pack.Reads as pack

-- 3 to 9, of `fault`
pub fault_exactly : (w a : ℕ) (r : Refusal) → (fault_of w a ≡ Some r) ↔ Given r (fault_checks w a (line_of w))
unfolding fault_of
fault_exactly w a r = (first_given (fault_checks w a (line_of w)), given_first (fault_checks w a (line_of w)) r)

-- 20, then 3 to 9, of `take_apart`
pub apart_exactly : (w a : ℕ) (r : Refusal) → (taken_apart w a ≡ Err r) ↔ Given r (apart_checks w a (line_of w))
unfolding taken_apart
apart_exactly w a = exactly result_tells (fields_of w) (apart_checks w a (line_of w))

-- 20, 8, 9, of `pack`
pub pack_exactly : (f : Fields) (a : ℕ) (r : Refusal) → (packed f a ≡ Err r) ↔ Given r (pack_checks f a)
unfolding packed
pack_exactly f a = exactly result_tells (join widths (line_with f a)) (pack_checks f a)

-- ---- no second answer fits: two results that meet one contract at the same arguments are the same

pub fields_sole : (κs : _) (args : _) (r s : Fields) (x y : _) → fields_of_reads.Post κs args r x → fields_of_reads.Post κs args s y → r ≡ s
fields_sole κs args r s x y p q = sole p q

pub fault_sole : (κs : _) (args : _) (r s : Option Refusal) (x y : _) → fault.Post κs args r x → fault.Post κs args s y → r ≡ s
fault_sole κs args r s x y p q = sole p q

pub apart_sole : (κs : _) (args : _) (r s : Result Fields Refusal) (x y : _) → take_apart.Post κs args r x → take_apart.Post κs args s y → r ≡ s
apart_sole κs args r s x y p q = sole p q

pub pack_sole : (κs : _) (args : _) (r s : Result ℕ Refusal) (x y : _) → pack.Post κs args r x → pack.Post κs args s y → r ≡ s
pack_sole κs args r s x y p q = sole p q
