-- "Storage.": step d, of what it sees of the state that has the arriving byte in R. Assumes nothing.
use Rattle.std.specs.Prelude.{ℕ, ◌+◌, ◌-◌, ◌*◌, ◌<◌, ◌≤◌, List, [], ◌∷◌, Bool, true, false, cond, not, ◌&&◌, ◌||◌, ◌⊎◌, leb, ltb, get_or, set, take, drop}
use Rattle.digits.specs.Bits.{bit}
use Rattle.word.specs.declared.Fields.{Fields}
use Rattle.storage.specs.declared.Seen.{Seen}
use Rattle.storage.specs.declared.Access.{Access}
use Rattle.storage.specs.declared.Fence.{Fence}

-- "CU: 0 main, 1 local, 3 local if G0 and G1 are both 0, else main."
abbrev pub reads_local : ℕ → Seen → Bool
reads_local cu s =
    get_or
    (false ∷  -- 0
    true ∷  -- 1
    false ∷  -- 2
    (not (bit s.g 0) && not (bit s.g 1)) ∷  -- 3
    []) cu false

-- "If the latch is off, the read fetches a byte that becomes the arriving byte and turns the latch on. If it is on, only the address and
-- kind are replaced."
abbrev pub reads_at : ℕ → ℕ → Bool → Seen → Access
reads_at m n local s = record { m = m; n = n; local = local; latch = true; fetches = not s.allow_write; puts = false }

-- "Write and Store with the latch on put R at the present address and kind and turn the latch off; with it off they touch no storage."
abbrev pub writing : Seen → Access
writing s = record { m = s.m; n = s.n; local = s.local_selected; latch = false; fetches = false; puts = s.allow_write }

abbrev pub idle : Seen → Access
idle s = record { m = s.m; n = s.n; local = s.local_selected; latch = s.allow_write; fetches = false; puts = false }

-- "CM 0 Write, 1 none, 2 Store, 3 IJ, 4 UV, 5 LT. For 3 to 5, M and N take the pair (old values); for 5 with local storage only N takes T
-- and M stays."
abbrev pub accesses : Bool → Seen → List Access
accesses local s =
    writing s ∷  -- 0
    idle s ∷  -- 1
    writing s ∷  -- 2
    reads_at s.i s.j local s ∷  -- 3
    reads_at s.u s.v local s ∷  -- 4
    reads_at (cond local s.m s.l) s.t local s ∷  -- 5
    []

-- the address, the kind and the latch after the step, and what it does
unfoldable pub access_of : Fields → Seen → Access
access_of f s = get_or (accesses (reads_local f.cu s) s) f.cm (idle s)

-- "Main uses M and N as one address; local uses N alone."
abbrev pub main_address : Access → ℕ
main_address a = a.m * 256 + a.n

-- "a fence, a start and an end not in it": the address is not in it
abbrev pub beyond : Fence → ℕ → Bool
beyond fence at = ltb at fence.start || leb fence.end at

-- the same as statements: an address is in the fence, or it is not
abbrev pub Within : Fence → ℕ → Type 0
Within fence at = (fence.start ≤ at) × (at < fence.end)

abbrev pub Beyond : Fence → ℕ → Type 0
Beyond fence at = (at < fence.start) ⊎ (fence.end ≤ at)

-- round all main storage, which has at most 65,536 bytes: the fence of a board that has none
abbrev pub whole : Fence
whole = record { start = 0; end = 65536 }

-- the bytes of main storage within a fence
abbrev pub bytes_in : Fence → List ℕ → List ℕ
bytes_in fence main = take (fence.end - fence.start) (drop fence.start main)

-- 11: "main address not inside main storage, when a byte would be fetched or written"; "11 is given for an address outside the board's own
-- fence, also for reads"
abbrev pub outside : Fence → ℕ → Access → Bool
outside fence main a = (a.fetches || a.puts) && (not a.local && (leb main (main_address a) || beyond fence (main_address a)))

-- the byte that is fetched, 0 where none is
abbrev pub fetched_of : List ℕ → List ℕ → Access → ℕ
fetched_of main local a = cond a.fetches (cond a.local (get_or local a.n 0) (get_or main (main_address a) 0)) 0

-- the storages after the step, where r is put. "Reading does not clear."
abbrev pub main_after : List ℕ → Access → ℕ → List ℕ
main_after main a r = cond (a.puts && not a.local) (set main (main_address a) r) main

abbrev pub local_after : List ℕ → Access → ℕ → List ℕ
local_after local a r = cond (a.puts && a.local) (set local a.n r) local
