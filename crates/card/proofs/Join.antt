-- A trailer as it is shown, byte by byte.
-- Assumes nothing.
use mathlib.Core.Path.{◌≡◌, refl, ap₂}
use mathlib.Core.Bool.{Bool, true, false, cond}
use mathlib.Core.List.{List, [], ◌∷◌}
use Prim.Native.Nat.{ℕ, zero, suc, ◌<◌}
use native.Mathlib.Omega.{arith}
use lib.ListN.{length, get_or}
use Rattle.value.proofs.Words.{elements, listed}
use Rattle.access.specs.Rights.{readable_of}
use Rattle.card.specs.Trailer.{join_of, shown_trailer}
use Rattle.card.specs.Code.{sight_of, seen_of}

-- how well each byte of a trailer is hidden
abbrev pub hiding : List ℕ
hiding = 3 ∷ 3 ∷ 3 ∷ 3 ∷ 3 ∷ 3 ∷ 1 ∷ 1 ∷ 1 ∷ 1 ∷ 2 ∷ 2 ∷ 2 ∷ 2 ∷ 2 ∷ 2 ∷ []

-- a list by its elements
pub from_elements : (n : ℕ) (xs : List ℕ) (f : ℕ → ℕ) → length xs ≡ n → ((i : ℕ) → i < n → get_or xs i 0 ≡ f i) → xs ≡ elements n f
from_elements zero [] f e h = refl
from_elements zero (x ∷ xs) f e h = absurd (omega arith)
from_elements (suc n) [] f e h = absurd (omega arith)
from_elements (suc n) (x ∷ xs) f e h =
    ap₂ ◌∷◌ (h 0 (omega arith)) (from_elements n xs (λ (i : ℕ). f (suc i)) (omega arith) (λ i k. h (suc i) (omega arith)))

-- each byte as the bits say of key B
pub shown_each : (m : ℕ) (t : List ℕ) → length t ≡ 16 → shown_trailer (readable_of m) t ≡ elements 16 (λ (i : ℕ). seen_of (get_or hiding i 0) (sight_of m) (get_or t i 0))
unfolding sight_of seen_of shown_trailer join_of
shown_each m t l = go (readable_of m)
  where
    go : (readable : Bool) → shown_trailer readable t ≡ elements 16 (λ (i : ℕ). seen_of (get_or hiding i 0) (cond readable 3 2) (get_or t i 0))
    go true = rw (listed 16 t l)
    go false = rw (listed 16 t l)
