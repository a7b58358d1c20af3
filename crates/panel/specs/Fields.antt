-- "the 18 fields other than PN, PA, PS and PC .. in word order, one to a byte". Assumes nothing.
use Rattle.std.specs.Prelude.{ℕ, List, [], ◌∷◌, get_or}
use Rattle.word.specs.declared.Fields.{Fields}

unfoldable pub field_bytes : Fields → List ℕ
field_bytes f =
    f.cn ∷ f.ch ∷ f.cl ∷ f.cm ∷ f.cu ∷ f.ca ∷ f.aa ∷ f.cb ∷ f.ck ∷ f.ak ∷ f.pk ∷ f.cd ∷ f.cf ∷ f.cg ∷ f.cv ∷ f.cc ∷ f.cs ∷ f.asb ∷ []

unfoldable pub fields_in : List ℕ → Fields
fields_in bytes =
    record {
      cn = get_or bytes 0 0;
      ch = get_or bytes 1 0;
      cl = get_or bytes 2 0;
      cm = get_or bytes 3 0;
      cu = get_or bytes 4 0;
      ca = get_or bytes 5 0;
      aa = get_or bytes 6 0;
      cb = get_or bytes 7 0;
      ck = get_or bytes 8 0;
      ak = get_or bytes 9 0;
      pk = get_or bytes 10 0;
      cd = get_or bytes 11 0;
      cf = get_or bytes 12 0;
      cg = get_or bytes 13 0;
      cv = get_or bytes 14 0;
      cc = get_or bytes 15 0;
      cs = get_or bytes 16 0;
      asb = get_or bytes 17 0;
    }
