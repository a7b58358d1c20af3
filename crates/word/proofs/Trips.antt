-- "Taken apart and packed again, a word is the same word, and fields the same fields." Assumes nothing.
use Prim.Native.Nat.{ℕ, ◌^◌, ◌<◌}
use mathlib.Core.Path.{◌≡◌, sym, ap, subst, ◌∙◌}
use mathlib.Core.List.{List}
use mathlib.Core.Bool.{true, not}
use native.Mathlib.Omega.{arith}
use native.Mathlib.Nat.{mod-eq_of_lt}
use borrow.Author.Tests.{lt-leb, leb-false, not-false}
use Rattle.digits.specs.Line.{parts, join}
use Rattle.std.specs.Prelude.{Option, None, Ok, Err}
use Rattle.digits.specs.Refusal.{answer}
use Rattle.digits.specs.declared.refusal.Refusal.{Refusal}
use Rattle.digits.proofs.Lines.{Fit, join_parts, parts_join, join_lt, fit_true, true_fit, parts_fit}
use Rattle.digits.proofs.Refusals.{NoneHolds, none_first, given_none, result_tells}
use Rattle.digits.proofs.Truth.{neither}
use Rattle.word.specs.Layout.{widths, line_of, field, fields_of, line, PN, PA, PS, PC}
use Rattle.word.specs.Parity.{odd_bit, values, pn_covers, pa_covers, ps_covers, pc_covers}
use Rattle.word.specs.Word.{k_checks, fault_checks, fault_of, far_address, apart_checks, judged, taken_apart, in_width, pack_checks, line_with, packed}
use Rattle.word.specs.declared.Fields.{Fields}
use Rattle.word.proofs.Odd.{odd_makes, odd_is}

-- ---- a line fits whatever its four parity bits are

refit : (f : Fields) (qn qa qs qc pn pa ps pc : ℕ) → Fit widths (line f qn qa qs qc) → pn < 2 → pa < 2 → ps < 2 → pc < 2 → Fit widths (line f pn pa ps pc)
refit f qn qa qs qc pn pa ps pc (a, (_, (_, (b, (c, (d, (e, (g, (h, (i, (j, (k, (l, (_, (m, (o, (p, (q, (r, (s, (t, (_, u)))))))))))))))))))))) hn ha hs hc =
    (a, (hn, (ha, (b, (c, (d, (e, (g, (h, (i, (j, (k, (l, (hs, (m, (o, (p, (q, (r, (s, (t, (hc, u))))))))))))))))))))))

pub fit_line : (f : Fields) (pn pa ps pc : ℕ) → in_width f ≡ true → pn < 2 → pa < 2 → ps < 2 → pc < 2 → Fit widths (line f pn pa ps pc)
unfolding in_width
fit_line f pn pa ps pc h = refit f 0 0 0 0 pn pa ps pc (fit_true widths (line f 0 0 0 0) h)

fit_with : (f : Fields) (a : ℕ) → in_width f ≡ true → Fit widths (line_with f a)
fit_with f a h = fit_line f _ _ _ _ h (omega arith) (omega arith) (omega arith) (omega arith)

width_back : (w : ℕ) → in_width (fields_of w) ≡ true
unfolding in_width
width_back w =
    let l : List ℕ = line_of w in
    true_fit widths (line (fields_of w) 0 0 0 0)
    (refit (fields_of w) (field l PN) (field l PA) (field l PS) (field l PC) 0 0 0 0 (parts_fit widths w) (omega arith) (omega arith) (omega arith) (omega arith))

-- ---- what an accepted word, and accepted fields, meet

good : (w a : ℕ) (f : Fields) → taken_apart w a ≡ Ok f → NoneHolds (apart_checks w a (line_of w)) × (fields_of w ≡ f)
unfolding taken_apart
good w a f = given_none result_tells (fields_of w) f (λ e. cc) (apart_checks w a (line_of w))

-- a word that is taken apart is not refused by 3 to 9, and its fields are its own
pub apart_fields : (w a : ℕ) (f : Fields) → taken_apart w a ≡ Ok f → (fault_of w a ≡ None) × (fields_of w ≡ f)
unfolding fault_of
apart_fields w a f e =
    let (checks, same) = good w a f e in
    (none_first (fault_checks w a (line_of w)) checks.1, same)

sound : (f : Fields) (a w : ℕ) → packed f a ≡ Ok w → NoneHolds (pack_checks f a) × (join widths (line_with f a) ≡ w)
unfolding packed
sound f a w = given_none result_tells (join widths (line_with f a)) w (λ e. cc) (pack_checks f a)

-- ---- the two trips

-- the word's own parity bits are those that packing works out
line_back : (w a : ℕ) → NoneHolds (apart_checks w a (line_of w)) → line_with (fields_of w) a ≡ line_of w
line_back w a (far, (top, (pn, (pa, (ps, (pc, k)))))) =
    let l : List ℕ = line_of w in
    let en : odd_bit (values pn_covers l) ≡ field l PN = odd_is (values pn_covers l) (field l PN) (omega arith) pn in
    let ea : odd_bit (pa_covers a) ≡ field l PA = odd_is (pa_covers a) (field l PA) (omega arith) pa in
    let es : odd_bit (values ps_covers l) ≡ field l PS = odd_is (values ps_covers l) (field l PS) (omega arith) ps in
    let ec : odd_bit (values pc_covers l) ≡ field l PC = odd_is (values pc_covers l) (field l PC) (omega arith) pc in
    rw (ea, en, es, ec)

-- a word that was taken apart is packed again, to itself
pub apart_packed : (w a : ℕ) (f : Fields) → taken_apart w a ≡ Ok f → packed f a ≡ Ok w
unfolding packed
apart_packed w a f e =
    let (checks, same) = good w a f e in
    let (far, (top, (pn, (pa, (ps, (pc, k)))))) = checks in
    let word : join widths (line_with (fields_of w) a) ≡ w =
    ap (join widths) (line_back w a checks) ∙ join_parts widths w ∙ mod-eq_of_lt (leb-false (2 ^ 55) w top) in
    rw (← same, far, width_back w, none_first (k_checks (line (fields_of w) 0 0 0 0)) k, word)

-- fields that were packed are taken apart again, to themselves
pub packed_apart : (f : Fields) (a w : ℕ) → packed f a ≡ Ok w → taken_apart w a ≡ Ok f
unfolding taken_apart
packed_apart f a w e =
    let (checks, same) = sound f a w e in
    let (twenty, k) = checks in
    let bare : List ℕ = line f 0 0 0 0 in
    let (far, fits) = neither (far_address a) (not (in_width f)) twenty in
    let width = not-false (in_width f) fits in
    let fits = fit_with f a width in
    let back : line_of w ≡ line_with f a = ap (parts widths) (sym same) ∙ parts_join widths (line_with f a) fits in
    let small : w < 2 ^ 55 = subst (λ (x : ℕ). x < 2 ^ 55) same (join_lt widths (line_with f a) fits) in
    ap (judged w a) back
    ∙ ap (λ (k : Option Refusal). answer k Err (Ok f))
    (none_first (apart_checks w a (line_with f a))
    (far, (lt-leb (2 ^ 55) w small, (odd_makes (values pn_covers bare), (odd_makes (pa_covers a), (odd_makes (values ps_covers (line f 0 (odd_bit (pa_covers a)) 0 0)), (odd_makes (values pc_covers bare), k)))))))
