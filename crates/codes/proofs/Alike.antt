-- A word that uses none of the seven codes finds the same in both readings. Assumes nothing.
use Prim.Native.Nat.{ℕ, zero, suc}
use mathlib.Core.Path.{◌≡◌, refl, sym, ◌∙◌}
use mathlib.Core.List.{List, [], ◌∷◌}
use mathlib.Core.Bool.{Bool, true, false, not}
use borrow.Author.Tests.{eqb-false, not-true}
use lib.Dec.{eqb}
use lib.ListN.{get_or, set}
use lib.Seq.{get_or-set_other}
use Rattle.digits.specs.Bits.{bit, with_bit}
use Rattle.digits.specs.Table.{among, every}
use Rattle.digits.proofs.Truth.{both, neither}
use Rattle.word.specs.Layout.{fields_of}
use Rattle.word.specs.declared.Fields.{Fields}
use Rattle.codes.specs.Branches.{high_branches, low_branches}
use Rattle.codes.specs.Status.{statuses}
use Rattle.codes.specs.Modelled.{unmodelled_of}
use Rattle.codes.specs.Seven.{uses_one}
use Rattle.codes.specs.declared.Reading.TheVariants.{Basic, Compatibility}
use Rattle.codes.specs.declared.Tested.{Tested}

-- a table with one row changed, at another code
elsewhere : {A : Type 0} (rows : List A) (code : ℕ) (row other : A) (k : ℕ) → eqb k code ≡ false → get_or (set rows code row) k other ≡ get_or rows k other
elsewhere rows code row other k e = get_or-set_other rows code k row other (eqb-false k code e)

-- what a word that uses none has in none of the three fields
pub record NoneOf (f : Fields) : Type 0 where
  pub ch_3 : eqb f.ch 3 ≡ false
  pub ch_8 : eqb f.ch 8 ≡ false
  pub cl_4 : eqb f.cl 4 ≡ false
  pub cl_6 : eqb f.cl 6 ≡ false
  pub cl_12 : eqb f.cl 12 ≡ false
  pub cs_5 : eqb f.cs 5 ≡ false
  pub cs_15 : eqb f.cs 15 ≡ false

none_of : (f : Fields) → uses_one f ≡ false → NoneOf f
none_of f e =
    let (ch, rest) = neither (among f.ch (3 ∷ 8 ∷ [])) _ e in
    let (cl, cs) = neither (among f.cl (4 ∷ 6 ∷ 12 ∷ [])) _ rest in
    let (ch_3, ch-others) = neither (eqb f.ch 3) _ ch in
    let (ch_8, ch-end) = neither (eqb f.ch 8) _ ch-others in
    let (cl_4, cl-others) = neither (eqb f.cl 4) _ cl in
    let (cl_6, cl-more) = neither (eqb f.cl 6) _ cl-others in
    let (cl_12, cl-end) = neither (eqb f.cl 12) _ cl-more in
    let (cs_5, cs-others) = neither (eqb f.cs 5) _ cs in
    let (cs_15, cs-end) = neither (eqb f.cs 15) _ cs-others in
    record { ch_3 = ch_3; ch_8 = ch_8; cl_4 = cl_4; cl_6 = cl_6; cl_12 = cl_12; cs_5 = cs_5; cs_15 = cs_15 }

-- no word of a store that uses none does, nor what stands past its end
pub none_at : (i : ℕ) (store : List ℕ) (a : ℕ) → every (λ address word. not (uses_one (fields_of word))) i store ≡ true → uses_one (fields_of (get_or store a 0)) ≡ false
none_at i [] a e = refl
none_at i (w ∷ ws) zero e = not-true (uses_one (fields_of w)) (both (not (uses_one (fields_of w))) _ e).0
none_at i (w ∷ ws) (suc a) e = none_at (suc i) ws a (both (not (uses_one (fields_of w))) _ e).1

module _ (f : Fields) (none : uses_one f ≡ false) where
  -- each table in compatibility is the basic one with its rows of the seven codes changed
  pub high_alike : (t : Tested) → get_or (high_branches Basic t) f.ch false ≡ get_or (high_branches Compatibility t) f.ch false
  high_alike t =
      let n = none_of f none in
      let rows : List Bool = high_branches Basic t in
      sym (elsewhere (set rows 3 false) 8 (bit t.r 2) false f.ch n.ch_8 ∙ elsewhere rows 3 false false f.ch n.ch_3)

  pub low_alike : (t : Tested) → get_or (low_branches Basic t) f.cl false ≡ get_or (low_branches Compatibility t) f.cl false
  low_alike t =
      let n = none_of f none in
      let rows : List Bool = low_branches Basic t in
      let four : List Bool = set rows 4 (bit t.g 1) in
      let six : List Bool = set four 6 (bit t.r 1) in
      sym
      (elsewhere six 12 (bit t.r 3) false f.cl n.cl_12
      ∙ elsewhere four 6 (bit t.r 1) false f.cl n.cl_6
      ∙ elsewhere rows 4 (bit t.g 1) false f.cl n.cl_4)

  pub status_alike : (result s : ℕ) → get_or (statuses Basic result s) f.cs s ≡ get_or (statuses Compatibility result s) f.cs s
  status_alike result s =
      let n = none_of f none in
      let rows : List ℕ = statuses Basic result s in
      sym (elsewhere (set rows 5 (with_bit s 1 true)) 15 (with_bit s 1 false) s f.cs n.cs_15 ∙ elsewhere rows 5 (with_bit s 1 true) s f.cs n.cs_5)

  -- and 10 names the same field, or none
  pub unmodelled_alike : unmodelled_of Basic f ≡ unmodelled_of Compatibility f
  unfolding unmodelled_of
  unmodelled_alike = let n = none_of f none in rw (n.ch_3, n.cl_4, n.cl_12, n.cs_5, n.cs_15)
