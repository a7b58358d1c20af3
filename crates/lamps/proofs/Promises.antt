-- No second answer fits: two results that meet one contract at the same arguments are the same, with what stands in the room lent. When 19 is given, and that it writes nothing, are `text`'s put_exactly and put_nothing. Assumes nothing.
use Prim.Native.Nat.{ℕ}
use mathlib.Core.Path.{◌≡◌}
use Rattle.digits.proofs.Sole.{sole}
use Rattle.std.specs.Prelude.{Result}
use Rattle.digits.specs.declared.refusal.Refusal.{Refusal}
use Rattle.lamps.proofs.lines.header.Reads as header
use Rattle.lamps.proofs.lines.line.Reads as line
use Rattle.lamps.proofs.lines.start.Reads as start
use Rattle.lamps.proofs.pictures.picture.Reads as picture
use Rattle.lamps.proofs.pictures.start_picture.Reads as start_picture
use Rattle.lamps.proofs.walks.walk.Reads as walk
use Rattle.lamps.proofs.endings.ending.Reads as ending
use Rattle.lamps.proofs.endings.refused.Reads as refused
use Rattle.lamps.proofs.endings.trapped.Reads as trapped

pub header_sole : (κs : _) (args : _) (r s : Result ℕ Refusal) (x y : _) → header.Post κs args r x → header.Post κs args s y → (r ≡ s) × (x.0.now ≡ y.0.now)
header_sole κs args r s x y p q = (sole p.0 q.0, sole p.1 q.1)

pub line_sole : (κs : _) (args : _) (r s : Result ℕ Refusal) (x y : _) → line.Post κs args r x → line.Post κs args s y → (r ≡ s) × (x.1.1.1.1.0.now ≡ y.1.1.1.1.0.now)
line_sole κs args r s x y p q = (sole p.0 q.0, sole p.1 q.1)

pub start_sole : (κs : _) (args : _) (r s : Result ℕ Refusal) (x y : _) → start.Post κs args r x → start.Post κs args s y → (r ≡ s) × (x.1.0.now ≡ y.1.0.now)
start_sole κs args r s x y p q = (sole p.0 q.0, sole p.1 q.1)

pub picture_sole : (κs : _) (args : _) (r s : Result ℕ Refusal) (x y : _) → picture.Post κs args r x → picture.Post κs args s y → (r ≡ s) × (x.1.1.1.1.0.now ≡ y.1.1.1.1.0.now)
picture_sole κs args r s x y p q = (sole p.0 q.0, sole p.1 q.1)

pub start_picture_sole : (κs : _) (args : _) (r s : Result ℕ Refusal) (x y : _) → start_picture.Post κs args r x → start_picture.Post κs args s y → (r ≡ s) × (x.1.0.now ≡ y.1.0.now)
start_picture_sole κs args r s x y p q = (sole p.0 q.0, sole p.1 q.1)

pub walk_sole : (κs : _) (args : _) (r s : Result ℕ Refusal) (x y : _) → walk.Post κs args r x → walk.Post κs args s y → (r ≡ s) × (x.0.now ≡ y.0.now)
walk_sole κs args r s x y p q = (sole p.0 q.0, sole p.1 q.1)

pub ending_sole : (κs : _) (args : _) (r s : Result ℕ Refusal) (x y : _) → ending.Post κs args r x → ending.Post κs args s y → (r ≡ s) × (x.1.1.0.now ≡ y.1.1.0.now)
ending_sole κs args r s x y p q = (sole p.0 q.0, sole p.1 q.1)

pub trapped_sole : (κs : _) (args : _) (r s : Result ℕ Refusal) (x y : _) → trapped.Post κs args r x → trapped.Post κs args s y → (r ≡ s) × (x.1.1.0.now ≡ y.1.1.0.now)
trapped_sole κs args r s x y p q = (sole p.0 q.0, sole p.1 q.1)

pub refused_sole : (κs : _) (args : _) (r s : Result ℕ Refusal) (x y : _) → refused.Post κs args r x → refused.Post κs args s y → (r ≡ s) × (x.1.1.1.1.0.now ≡ y.1.1.1.1.0.now)
refused_sole κs args r s x y p q = (sole p.0 q.0, sole p.1 q.1)
