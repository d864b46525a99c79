-- A table of eight rows: what stands at each index is the row of that number.
-- Assumes nothing.
use mathlib.Core.Path.{◌≡◌, refl}
use mathlib.Core.List.{[], ◌∷◌, map}
use Prim.Native.Nat.{ℕ, zero, suc, ◌<◌}
use native.Mathlib.Omega.{arith}
use lib.ListN.{get_or}

pub indexed : {R : Type 0} (f : ℕ → R) (d : R) (k : ℕ) → k < 8 → get_or (map f (0 ∷ 1 ∷ 2 ∷ 3 ∷ 4 ∷ 5 ∷ 6 ∷ 7 ∷ [])) k d ≡ f k
indexed f d zero h = refl
indexed f d (suc zero) h = refl
indexed f d (suc (suc zero)) h = refl
indexed f d (suc (suc (suc zero))) h = refl
indexed f d (suc (suc (suc (suc zero)))) h = refl
indexed f d (suc (suc (suc (suc (suc zero))))) h = refl
indexed f d (suc (suc (suc (suc (suc (suc zero)))))) h = refl
indexed f d (suc (suc (suc (suc (suc (suc (suc zero))))))) h = refl
indexed f d (suc (suc (suc (suc (suc (suc (suc (suc k)))))))) h = absurd (omega arith)
