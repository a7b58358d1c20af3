-- Bytes stay bytes: every register is below 256, and WX and FWX below 65,536, after every cycle. Assumes nothing.
use Prim.Native.Nat.{ℕ, zero, suc, ◌+◌, ◌*◌, ◌<◌}
use mathlib.Core.Path.{◌≡◌, subst}
use mathlib.Core.List.{List, [], ◌∷◌}
use mathlib.Core.Bool.{Bool, true, false, cond, not, ◌&&◌}
use native.Mathlib.Omega.{arith}
use lib.Dec.{eqb}
use lib.ListN.{get_or, set}
use Rattle.digits.specs.Bits.{with_bit}
use Rattle.digits.specs.Digits.{high, low}
use Rattle.digits.proofs.Bits.{one_lt, with_lt}
use Rattle.digits.proofs.Table.{any}
use Rattle.digits.proofs.Truth.{zero_one}
use Rattle.std.specs.Prelude.{Option, Some, None}
use Rattle.digits.specs.Refusal.{first}
use Rattle.digits.specs.declared.refusal.Refusal.{Refusal}
use Rattle.word.specs.Layout.{fields_of}
use Rattle.word.specs.Parity.{ca_to_w, k_to_w, is_return}
use Rattle.word.specs.declared.Fields.{Fields}
use Rattle.codes.specs.Reading.{is_basic}
use Rattle.codes.specs.Branches.{high_branches, low_branches}
use Rattle.codes.specs.Status.{statuses}
use Rattle.codes.specs.declared.Reading.{Reading}
use Rattle.adder.specs.declared.Sum.{Sum}
use Rattle.adder.proofs.Laws.{sum_byte}
use Rattle.machine.specs.Sources.{entered, a_source, a_sources, b_source, b_sources, controls_of, sum_in}
use Rattle.machine.specs.Branch.{tested_of, w_of, x_of, next_of}
use Rattle.storage.specs.Storage.{reads_local, accesses, access_of, idle, fetched_of, main_address}
use Rattle.machine.specs.Status.{into, saves, status_of}
use Rattle.machine.specs.Cycle.{stops, seen_of, access_in, cycle_checks, word_at, after, ran_of, decided, cycle_in}
use Rattle.machine.specs.declared.Cycled.TheVariants.{Ran}
use Rattle.machine.specs.declared.State.{State}
use Rattle.storage.specs.declared.Access.{Access}
use Rattle.storage.specs.declared.Fence.{Fence}
use Rattle.storage.specs.declared.Seen.{Seen}

abbrev pub Byte : ℕ → Type 0
Byte n = n < 256

-- every byte of a storage is one
abbrev pub AllBytes : List ℕ → Type 0
AllBytes storage = (i : ℕ) → Byte (get_or storage i 0)

pub record Bytes (s : State) : Type 0 where
  pub i : Byte s.i
  pub j : Byte s.j
  pub u : Byte s.u
  pub v : Byte s.v
  pub l : Byte s.l
  pub t : Byte s.t
  pub d : Byte s.d
  pub r : Byte s.r
  pub s' : Byte s.s
  pub g : Byte s.g
  pub h : Byte s.h
  pub m : Byte s.m
  pub n : Byte s.n
  pub wx : s.wx < 65536
  pub fwx : s.fwx < 65536
  pub arriving : Byte s.arriving_byte

below : {most : ℕ} (b : Bool) (x y : ℕ) → x < most → y < most → cond b x y < most
below true x y hx hy = hx
below false x y hx hy = hy

-- a
pub entered_bytes : (f : Fields) (s : State) → Bytes s → Bytes (entered f s)
unfolding entered
entered_bytes f s b =
    record {
      i = b.i;
      j = b.j;
      u = b.u;
      v = b.v;
      l = b.l;
      t = b.t;
      d = b.d;
      r = below (s.arriving && not (eqb f.cm 2)) s.arriving_byte s.r b.arriving b.r;
      s' = b.s';
      g = b.g;
      h = b.h;
      m = b.m;
      n = b.n;
      wx = b.wx;
      fwx = b.fwx;
      arriving = omega arith;
    }

-- c
a_byte : (f : Fields) (s : State) → Bytes s → Byte (a_source f s)
a_byte f s b =
    below (ca_to_w f) 0 (get_or (a_sources s) f.ca 0) (omega arith)
    (any Byte (a_sources s) 0
    (omega arith, (omega arith, (omega arith, (omega arith, (b.s', (b.h, (omega arith, (b.r, (b.d, (b.l, (b.g, (b.t, (b.v, (b.u, (b.j, (b.i, tt))))))))))))))))
    (omega arith) f.ca)

b_byte : (f : Fields) (s : State) → f.ck < 16 → Bytes s → Byte (b_source f s)
b_byte f s k b = any Byte (b_sources f s) 0 (b.r, (b.l, (b.d, (omega arith, tt)))) (omega arith) f.cb

pub sum_bytes : (f : Fields) (s : State) → f.ck < 16 → Bytes s → Byte (sum_in f s).result
unfolding sum_in
sum_bytes f s k b = sum_byte (a_source f s) (b_source f s) (controls_of f s) (a_byte f s b) (b_byte f s k b)

-- d
pub record Addressed (a : Access) : Type 0 where
  pub m : Byte a.m
  pub n : Byte a.n

pub access_bytes : (f : Fields) (s : State) → Bytes s → Addressed (access_of f (seen_of s))
unfolding access_of
access_bytes f s b =
    let x : Seen = seen_of s in
    let there : Addressed (idle x) = record { m = b.m; n = b.n } in
    any Addressed (accesses (reads_local f.cu x) x) (idle x) (
      record { m = b.m; n = b.n },
      (
        record { m = b.m; n = b.n },
        (
          record { m = b.m; n = b.n },
          (record { m = b.i; n = b.j }, (record { m = b.u; n = b.v }, (record { m = below (reads_local f.cu x) s.m s.l b.m b.l; n = b.t }, tt))),
        ),
      ),
    ) there f.cm

pub fetched_byte : (main local : List ℕ) (a : Access) → AllBytes main → AllBytes local → Byte (fetched_of main local a)
fetched_byte main local a hm hl = below a.fetches _ 0 (below a.local _ _ (hl a.n) (hm (main_address a))) (omega arith)

-- e
status_byte : (reading : Reading) (f : Fields) (z : Sum) (s : ℕ) → Byte s → Byte (status_of reading f z s)
unfolding status_of
status_byte reading f z s h =
    let on : (x n : ℕ) (b : Bool) → Byte x → Byte (with_bit x n b) = λ x n b k. with_lt x n b k in
    let s5 : Bool = eqb (low z.result) 0 in
    let s4 : Bool = eqb (high z.result) 0 in
    let changed : Byte (get_or (statuses reading z.result s) f.cs s) =
    any Byte (statuses reading z.result s) s (
      h,
      (
        on s 5 s5 h,
        (
          on s 4 s4 h,
          (
            on (with_bit s 4 s4) 5 s5 (on s 4 s4 h),
            (
              on (with_bit s 4 false) 5 false (on s 4 false h),
              (
                below (is_basic reading) s (with_bit s 1 true) h (on s 1 true h),
                (
                  on s 0 false h,
                  (
                    on s 0 true h,
                    (
                      on s 2 false h,
                      (below (eqb z.result 0) s (with_bit s 2 true) h (on s 2 true h), (on s 6 false h, (on s 6 true h, (on s 7 false h, (on s 7 true h, (h, (below (is_basic reading) s (with_bit s 1 false) h (on s 1 false h), tt))))))),
                    ),
                  ),
                ),
              ),
            ),
          ),
        ),
      ),
    ) h f.cs in
    below (saves f.cc) _ _ (on _ 3 z.ac changed) changed

next_fits : (reading : Reading) (f : Fields) (s : State) → f.cn < 64 → f.ca < 16 → f.ck < 16 → s.wx < 65536 → s.fwx < 65536 → next_of reading f s < 65536
unfolding next_of
next_fits reading f s n a k h held =
    let w : w_of f s.wx < 256 = below (ca_to_w f) f.ca _ (omega arith) (below (k_to_w f) f.ck _ (omega arith) (omega arith)) in
    let formed : w_of f s.wx * 256 + x_of reading f s < 65536 = omega (arith, one_lt (get_or (high_branches reading (tested_of s)) f.ch false), one_lt (get_or (low_branches reading (tested_of s)) f.cl false)) in
    below (is_return f) s.fwx _ held formed

pub after_bytes : (reading : Reading) (f : Fields) (z : Sum) (a : Access) (b : ℕ) (s : State) → f.cn < 64 → f.ca < 16 → f.ck < 16
    → Byte z.result → Addressed a → Byte b → Bytes s → Bytes (after reading f z a b s)
after_bytes reading f z a b s cn ca ck hz ha hb k =
    let to : (code old : ℕ) → Byte old → Byte (into code f.cd z.result old) = λ code old h. below (eqb f.cd code) z.result old hz h in
    record {
      i = to 15 s.i k.i;
      j = to 14 s.j k.j;
      u = to 13 s.u k.u;
      v = to 12 s.v k.v;
      l = to 9 s.l k.l;
      t = to 11 s.t k.t;
      d = to 8 s.d k.d;
      r = to 7 s.r k.r;
      s' = status_byte reading f z _ (to 6 s.s k.s');
      g = to 10 s.g k.g;
      h = to 5 s.h k.h;
      m = ha.m;
      n = ha.n;
      wx = next_fits reading f s cn ca ck k.wx k.fwx;
      fwx = k.fwx;
      arriving = hb;
    }

-- a byte put into a storage
set_bytes : (l : List ℕ) (k x : ℕ) → AllBytes l → Byte x → AllBytes (set l k x)
set_bytes [] k x h hx i = h i
set_bytes (y ∷ l) zero x h hx zero = hx
set_bytes (y ∷ l) zero x h hx (suc i) = h (suc i)
set_bytes (y ∷ l) (suc k) x h hx zero = h zero
set_bytes (y ∷ l) (suc k) x h hx (suc i) = set_bytes l k x (λ n. h (suc n)) hx i

kept_bytes : (b : Bool) (new old : List ℕ) → AllBytes new → AllBytes old → AllBytes (cond b new old)
kept_bytes true new old hn ho = hn
kept_bytes false new old hn ho = ho

-- ---- the whole cycle

-- the state and both storages hold bytes
pub record Sound (t : State) (main local : List ℕ) : Type 0 where
  pub registers : Bytes t
  pub in_main : AllBytes main
  pub in_local : AllBytes local

ran_sound : (reading : Reading) (f : Fields) (main local : List ℕ) (s t : State) → f.cn < 64 → f.ca < 16 → f.ck < 16 → Sound s main local → (ran_of reading f main local s).answer ≡ Ran t
    → Sound t (ran_of reading f main local s).main (ran_of reading f main local s).local
unfolding ran_of
ran_sound reading f main local s t cn ca ck h e =
    let b = entered_bytes f s h.registers in
    let a : Access = access_in f s in
    let is : after reading f (sum_in f (entered f s)) a (fetched_of main local a) (entered f s) ≡ t = cc in
    record {
      registers = subst Bytes is
          (after_bytes reading f (sum_in f (entered f s)) a (fetched_of main local a) (entered f s) cn ca ck (sum_bytes f (entered f s) ck b) (access_bytes f (entered f s) b)
          (fetched_byte main local a h.in_main h.in_local) b);
      in_main = kept_bytes (a.puts && not a.local) _ main (set_bytes main (main_address a) (entered f s).r h.in_main b.r) h.in_main;
      in_local = kept_bytes (a.puts && a.local) _ local (set_bytes local a.n (entered f s).r h.in_local b.r) h.in_local;
    }

decided_sound : (reading : Reading) (k : Option Refusal) (stop : Bool) (f : Fields) (main local : List ℕ) (s t : State) → f.cn < 64 → f.ca < 16 → f.ck < 16 → Sound s main local
    → (decided reading k stop f main local s).answer ≡ Ran t → Sound t (decided reading k stop f main local s).main (decided reading k stop f main local s).local
decided_sound reading (Some r) stop f main local s t cn ca ck h e = absurd (zero_one cc)
decided_sound reading None true f main local s t cn ca ck h e = absurd (zero_one cc)
decided_sound reading None false f main local s t cn ca ck h e = ran_sound reading f main local s t cn ca ck h e

pub bytes_stay : (fence : Fence) (reading : Reading) (store main local : List ℕ) (s t : State) → Sound s main local → (cycle_in fence reading store main local s).answer ≡ Ran t
    → Sound t (cycle_in fence reading store main local s).main (cycle_in fence reading store main local s).local
unfolding cycle_in
bytes_stay fence reading store main local s t h e =
    let f : Fields = fields_of (word_at store s) in
    decided_sound reading (first (cycle_checks fence reading store main local s)) (stops f) f main local s t (omega arith) (omega arith) (omega arith) h e
