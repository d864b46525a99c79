-- The order of whole numbers, by one that is taken off.
-- Assumes nothing.
use mathlib.Core.Path.{◌≡◌, refl, sym}
use mathlib.Core.Bool.{Bool, true, false, false≢true}
use Prim.Native.Nat.{zero, suc, ◌+◌, ◌-◌}
use native.Mathlib.Omega.{arith}
use lib.Dec.{ltb, leb}
use lib.IntN.{ℤ, pos, negsuc, ◌-ℤ◌, +ℤ_idr}
use lib.Signed.{le_z}
use borrow.Author.Tests.{le-ltb, le-leb, leb-true}
use Rattle.value.specs.Sum.{is_negative}

-- a number less one that is not below zero
pub lower : (z o top : ℤ) → is_negative o ≡ false → le_z z top ≡ true → le_z (z -ℤ o) top ≡ true
unfolding is_negative
lower z (negsuc n) top e h = absurd (false≢true (sym e))
lower z (pos zero) top e h = rw (+ℤ_idr z) h
lower (pos m) (pos (suc n)) (pos p) e h = go (ltb m (suc n)) refl
  where
    go : (u : Bool) → ltb m (suc n) ≡ u → le_z (pos m -ℤ pos (suc n)) (pos p) ≡ true
    go true q = simp q
    go false q = simp (q, le-leb (m - suc n) p (omega (arith, leb-true m p h)))
lower (pos m) (pos (suc n)) (negsuc p) e h = absurd (false≢true h)
lower (negsuc m) (pos (suc n)) (pos p) e h = refl
lower (negsuc m) (pos (suc n)) (negsuc p) e h = le-leb p (suc (m + n)) (omega (arith, leb-true p m h))

-- and a number is above the one below it
pub above_itself : (z : ℤ) → le_z z (z -ℤ pos 1) ≡ true → ⊥
above_itself (pos zero) h = false≢true h
above_itself (pos (suc n)) h =
    let q : ltb (suc n) 1 ≡ false = le-ltb (suc n) 1 (omega arith) in
    let p : leb (suc n) (suc n - 1) ≡ true = simp q at h in
    absurd (omega (arith, leb-true (suc n) (suc n - 1) p))
above_itself (negsuc n) h = absurd (omega (arith, leb-true (suc (n + 0)) n h))
