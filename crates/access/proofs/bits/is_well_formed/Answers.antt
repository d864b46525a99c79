-- Byte 6 is the inverse of C2 and C1 exactly when each of them agrees with its own.
use mathlib.Core.Path.{◌≡◌, refl, ap}
use mathlib.Core.Bool.{Bool, true, false, ◌&&◌}
use Prim.Native.Nat.{ℕ, ◌+◌, ◌*◌, ◌-◌, ◌/◌, ◌%◌, ◌<◌}
use native.Mathlib.Omega.{arith}
use lib.Dec.{eqb}
use borrow.Author.Tests.{eqb-true, eqb-false}
use Rattle.access.specs.Bits.{well_formed}
use borrow.Author.Rules.{rules}
use Rattle.access.proofs.bits.is_well_formed.Goals as goal

inverses : (six c1 c2 : ℕ) → six < 256 → c1 < 16 → c2 < 16 → eqb six (255 - (16 * c2 + c1)) ≡ (eqb (c1 + six % 16) 15 && eqb (c2 + six / 16) 15)
inverses six c1 c2 h h1 h2 = go (eqb six (255 - (16 * c2 + c1))) refl (eqb (c1 + six % 16) 15) refl (eqb (c2 + six / 16) 15) refl
  where
    go : (t : Bool) → eqb six (255 - (16 * c2 + c1)) ≡ t → (u : Bool) → eqb (c1 + six % 16) 15 ≡ u → (v : Bool) → eqb (c2 + six / 16) 15 ≡ v → t ≡ (u && v)
    go true e true f true g = refl
    go true e true f false g = absurd (eqb-false (c2 + six / 16) 15 g (omega (arith, eqb-true six (255 - (16 * c2 + c1)) e)))
    go true e false f v g = absurd (eqb-false (c1 + six % 16) 15 f (omega (arith, eqb-true six (255 - (16 * c2 + c1)) e)))
    go false e true f true g = absurd (eqb-false six (255 - (16 * c2 + c1)) e (omega (arith, eqb-true (c1 + six % 16) 15 f, eqb-true (c2 + six / 16) 15 g)))
    go false e true f false g = refl
    go false e false f v g = refl

pub returns : goal.returns
unfolding well_formed
returns c = let x = c.args.x in
    ap (λ (t : Bool). t && eqb (x.2 / 16 + x.1 % 16) 15) (inverses x.0 (x.1 / 16) (x.2 % 16) (search rules) (search rules) (search rules))
