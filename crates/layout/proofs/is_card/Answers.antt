-- The sizes that have sectors.
use mathlib.Core.Path.{◌≡◌, refl}
use mathlib.Core.Bool.{Bool, true, false, not, ◌||◌}
use Prim.Native.Nat.{ℕ}
use lib.Dec.{eqb}
use Rattle.layout.specs.Layout.{sectors_of}
use Rattle.layout.proofs.is_card.Goals as goal

sizes : (bytes : ℕ) → (eqb bytes 1024 || eqb bytes 4096) ≡ not (eqb (sectors_of bytes) 0)
unfolding sectors_of
sizes bytes = go (eqb bytes 1024) (eqb bytes 4096) refl refl
  where
    go : (t u : Bool) → eqb bytes 1024 ≡ t → eqb bytes 4096 ≡ u → (eqb bytes 1024 || eqb bytes 4096) ≡ not (eqb (sectors_of bytes) 0)
    go true u e f = rw e
    go false true e f = rw (e, f)
    go false false e f = rw (e, f)

pub returns : goal.returns
returns c = sizes _
