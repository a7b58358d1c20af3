-- A loop along a list: what is left of it against the whole. Assumes nothing.
use Rattle.std.proofs.Common.{◌≡◌, ℕ, suc, ◌+◌, ◌%◌, ◌^◌, ◌<◌, List, length, get_or, drop, add-one, arith, drop-cons}
use Rattle.digits.specs.Line.{total}

-- ---- a sum that wraps

wrap : (s g t : ℕ) → ((s + g) % 2 ^ 64 + t) % 2 ^ 64 ≡ (s + (g + t)) % 2 ^ 64
wrap s g t = omega arith

pub sum_step : (l : List ℕ) (i s : ℕ) → i < length l → ((s + get_or l i 0) % 2 ^ 64 + total (drop (i + 1) l)) % 2 ^ 64 ≡ (s + total (drop i l)) % 2 ^ 64
sum_step l i s h = rw (drop-cons l i 0 h, add-one) (wrap s (get_or l i 0) (total (drop (suc i) l)))
