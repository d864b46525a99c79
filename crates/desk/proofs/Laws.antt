-- Which sector a number names.
-- Assumes nothing.
use mathlib.Core.Path.{◌≡◌, refl, sym, ◌∙◌}
use mathlib.Core.Bool.{Bool, true, false, cond}
use Prim.Native.Nat.{◌≤◌}
use native.Mathlib.Omega.{arith}
use lib.Dec.{ltb}
use borrow.Author.Tests.{ltb-false, le-ltb}
use Rattle.layout.specs.Layout.{sector_at, sectors_of, has_sector}
use Rattle.layout.proofs.Laws.{at_most}
use Rattle.desk.specs.Desk.{sector_named, NamesItsSector}

pub names_its_sector : NamesItsSector
unfolding has_sector sector_named
names_its_sector bytes n = go (ltb n 256) refl
  where
    few : sectors_of bytes ≤ 40
    few = (at_most bytes).0

    go : (t : Bool) → ltb n 256 ≡ t → ltb (cond t (sector_at n) (sector_at 255)).0 (sectors_of bytes) ≡ ltb n (sectors_of bytes)
    go true e = refl
    go false e =
        let far = ltb-false n 256 e in
        le-ltb 255 (sectors_of bytes) (omega (arith, few)) ∙ sym (le-ltb n (sectors_of bytes) (omega (arith, few, far)))
