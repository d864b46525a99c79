-- What a Write stores is sixteen bytes.
-- Assumes nothing.
use mathlib.Core.Path.{◌≡◌, refl}
use mathlib.Core.Bool.{Bool, true, false, cond}
use mathlib.Core.List.{List}
use Prim.Native.Nat.{ℕ}
use native.Mathlib.Omega.{arith}
use lib.Dec.{leb}
use lib.ListN.{length, take, drop, length-append, length-drop}
use lib.Seq.{length-take-le, take_all}
use borrow.Author.Tests.{leb-true, le-leb}
use Rattle.layout.specs.declared.Block.{Block}
use Rattle.memory.specs.Memory.{sixteen_of, content_of}
use Rattle.memory.proofs.Laws.{content_length}
use Rattle.access.specs.declared.rights.Parts.{Parts}
use Rattle.card.specs.Trailer.{join_of, mixed_of}

pub sixteen_length : (bytes : List ℕ) → length (sixteen_of bytes) ≡ 16
unfolding sixteen_of
sixteen_length bytes = go (leb 16 (length bytes)) refl
  where
    go : (t : Bool) → leb 16 (length bytes) ≡ t → length (sixteen_of bytes) ≡ 16
    go true e = rw e (length-take-le 16 bytes (leb-true 16 (length bytes) e))
    go false e = rw e

-- sixteen bytes are their own first sixteen
pub sixteen_same : (bytes : List ℕ) → length bytes ≡ 16 → sixteen_of bytes ≡ bytes
unfolding sixteen_of
sixteen_same bytes l = rw (le-leb 16 (length bytes) (omega arith)) (take_all 16 bytes (omega arith))

join_length : (p q r : List ℕ) → length p ≡ 16 → length q ≡ 16 → length r ≡ 16 → length (join_of p q r) ≡ 16
unfolding join_of
join_length p q r lp lq lr =
    let a : length (take 6 p) ≡ 6 = length-take-le 6 p (omega arith) in
    let m : length (take 4 (drop 6 q)) ≡ 4 = length-take-le 4 (drop 6 q) (simp length-drop (omega arith)) in
    simp (length-append, a, m, length-drop) (omega arith)

one_of : (t : Bool) (x y : List ℕ) → length x ≡ 16 → length y ≡ 16 → length (cond t x y) ≡ 16
one_of true x y l m = l
one_of false x y l m = m

pub mixed_length : (p : Parts) (image : List ℕ) (b : Block) (frame : List ℕ) → length (mixed_of p (content_of image b) (sixteen_of frame)) ≡ 16
unfolding mixed_of
mixed_length p image b frame =
    let old = content_length image b in
    let new = sixteen_length frame in
    join_length _ _ _ (one_of p.a _ _ new old) (one_of p.bits _ _ new old) (one_of p.b _ _ new old)
