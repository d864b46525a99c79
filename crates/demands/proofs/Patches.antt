-- A trailer put together and blanked one byte after the other.
-- Assumes nothing.
use mathlib.Core.Path.{◌≡◌, refl}
use mathlib.Core.Bool.{Bool, true, false, cond}
use mathlib.Core.List.{List}
use Prim.Native.Nat.{ℕ, zero, suc, ◌+◌, ◌-◌, ◌≤◌}
use native.Mathlib.Omega.{arith}
use lib.ListN.{length, set, get_or}
use Rattle.value.proofs.Words.{listed}
use Rattle.access.specs.Rights.{readable_of}
use Rattle.card.specs.Trailer.{join_of, shown_trailer}
use Rattle.card.specs.Code.{sight_of, seen_of}
use Rattle.card.proofs.Join.{hiding}

-- the bytes x, with n of y's from a place on
unfoldable pub patched_of : List ℕ → List ℕ → ℕ → ℕ → List ℕ
patched_of x y from zero = x
patched_of x y from (suc n) = set (patched_of x y from n) (from + n) (get_or y (from + n) 0)

-- no byte set, and one byte more
pub patch_none : (x y : List ℕ) (from : ℕ) → x ≡ patched_of x y from (from - from)
unfolding patched_of
patch_none x y from = let n : from - from ≡ 0 = omega arith in rw n

pub patch_step : (x y bytes : List ℕ) (from i : ℕ) → from ≤ i → bytes ≡ patched_of x y from (i - from) → set bytes i (get_or y i 0) ≡ patched_of x y from (i + 1 - from)
unfolding patched_of
patch_step x y bytes from i h e =
    let n : i + 1 - from ≡ suc (i - from) = omega arith in
    let m : from + (i - from) ≡ i = omega arith in
    rw (n, m, e)

pub join_patches : (p q r : List ℕ) → length p ≡ 16 → length q ≡ 16 → length r ≡ 16 → patched_of (patched_of r p 0 6) q 6 4 ≡ join_of p q r
unfolding join_of patched_of
join_patches p q r lp lq lr = rw (listed 16 p lp, listed 16 q lq, listed 16 r lr)

-- a trailer with its first n bytes as a sight shows them
unfoldable pub blanked_of : ℕ → List ℕ → ℕ → List ℕ
blanked_of sight t zero = t
blanked_of sight t (suc n) = set (blanked_of sight t n) n (seen_of (get_or hiding n 0) sight (get_or t n 0))

pub blank_none : (sight : ℕ) (t : List ℕ) → t ≡ blanked_of sight t 0
unfolding blanked_of
blank_none sight t = refl

pub blank_step : (sight : ℕ) (t bytes : List ℕ) (i : ℕ) → bytes ≡ blanked_of sight t i → set bytes i (seen_of (get_or hiding i 0) sight (get_or t i 0)) ≡ blanked_of sight t (i + 1)
unfolding blanked_of
blank_step sight t bytes i e = let n : i + 1 ≡ suc i = omega arith in rw (n, e)

-- all sixteen, by what the bits say of key B
pub blank_all : (m : ℕ) (t : List ℕ) → length t ≡ 16 → blanked_of (sight_of m) t 16 ≡ shown_trailer (readable_of m) t
unfolding sight_of blanked_of seen_of shown_trailer join_of
blank_all m t l = go (readable_of m)
  where
    go : (readable : Bool) → blanked_of (cond readable 3 2) t 16 ≡ shown_trailer readable t
    go true = rw (listed 16 t l)
    go false = rw (listed 16 t l)
