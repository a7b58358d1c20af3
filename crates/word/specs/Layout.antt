-- "55 bits in a 64-bit number, top nine bits zero, high end first." Assumes nothing.
use Rattle.std.specs.Prelude.{ℕ, ◌-◌, List, [], ◌∷◌, get_or}
use Rattle.digits.specs.Line.{parts}
use Rattle.word.specs.declared.Fields.{Fields}

-- the widths of the fields
abbrev pub widths : List ℕ
widths =
    6 ∷  -- CN
    1 ∷  -- PN
    1 ∷  -- PA
    4 ∷  -- CH
    4 ∷  -- CL
    3 ∷  -- CM
    2 ∷  -- CU
    4 ∷  -- CA
    1 ∷  -- AA
    2 ∷  -- CB
    4 ∷  -- CK
    1 ∷  -- AK
    1 ∷  -- PK
    1 ∷  -- PS
    4 ∷  -- CD
    3 ∷  -- CF
    2 ∷  -- CG
    2 ∷  -- CV
    3 ∷  -- CC
    4 ∷  -- CS
    1 ∷  -- AS
    1 ∷  -- PC
    []

-- the fields by their places in the word, from 1 on
abbrev pub CN : ℕ
CN = 1

abbrev pub PN : ℕ
PN = 2

abbrev pub PA : ℕ
PA = 3

abbrev pub CH : ℕ
CH = 4

abbrev pub CL : ℕ
CL = 5

abbrev pub CM : ℕ
CM = 6

abbrev pub CU : ℕ
CU = 7

abbrev pub CA : ℕ
CA = 8

abbrev pub AA : ℕ
AA = 9

abbrev pub CB : ℕ
CB = 10

abbrev pub CK : ℕ
CK = 11

abbrev pub AK : ℕ
AK = 12

abbrev pub PK : ℕ
PK = 13

abbrev pub PS : ℕ
PS = 14

abbrev pub CD : ℕ
CD = 15

abbrev pub CF : ℕ
CF = 16

abbrev pub CG : ℕ
CG = 17

abbrev pub CV : ℕ
CV = 18

abbrev pub CC : ℕ
CC = 19

abbrev pub CS : ℕ
CS = 20

abbrev pub AS : ℕ
AS = 21

abbrev pub PC : ℕ
PC = 22

-- the value of the field at a place of a line of 22
abbrev pub field : List ℕ → ℕ → ℕ
field line place = get_or line (place - 1) 0

-- the line of a word's fields
abbrev pub line_of : ℕ → List ℕ
line_of word = parts widths word

-- the 18 fields other than PN, PA, PS and PC
abbrev pub named : List ℕ → Fields
named l =
    record {
      cn = field l CN;
      ch = field l CH;
      cl = field l CL;
      cm = field l CM;
      cu = field l CU;
      ca = field l CA;
      aa = field l AA;
      cb = field l CB;
      ck = field l CK;
      ak = field l AK;
      pk = field l PK;
      cd = field l CD;
      cf = field l CF;
      cg = field l CG;
      cv = field l CV;
      cc = field l CC;
      cs = field l CS;
      asb = field l AS;
    }

abbrev pub fields_of : ℕ → Fields
fields_of word = named (line_of word)

-- the line of 18 fields and the four parity bits
abbrev pub line : Fields → ℕ → ℕ → ℕ → ℕ → List ℕ
line f pn pa ps pc =
    f.cn ∷ pn ∷ pa ∷ f.ch ∷ f.cl ∷ f.cm ∷ f.cu ∷ f.ca ∷ f.aa ∷ f.cb ∷ f.ck ∷ f.ak ∷ f.pk ∷ ps ∷ f.cd ∷ f.cf ∷ f.cg ∷ f.cv ∷ f.cc ∷ f.cs ∷ f.asb ∷ pc ∷ []
