-- Which bytes changed, told byte by byte from the last one on.
-- Assumes nothing.
use mathlib.Core.Path.{◌≡◌, refl}
use mathlib.Core.Bool.{Bool, true, false, cond, not}
use mir.Val.{bool_byte}
use mathlib.Core.List.{List, [], ◌∷◌}
use Prim.Native.Nat.{ℕ, zero, suc, ◌+◌, ◌*◌, ◌<◌, ◌≤◌}
use native.Mathlib.Omega.{arith}
use lib.Dec.{eqb}
use lib.ListN.{length, drop, get_or, length-drop, drop_of_length-le}
use lib.Seq.{drop-cons}
use Rattle.mend.specs.One.{changed_of}

-- two, so many times
abbrev pub twos : ℕ → ℕ
twos zero = 1
twos (suc n) = 2 * twos n

twos_some : (n : ℕ) → 0 < twos n
twos_some zero = omega arith
twos_some (suc n) = omega (arith, twos_some n)

-- 1 where two bytes differ
pub differs : (t : Bool) → bool_byte (not t) ≡ cond t 0 1
differs true = refl
differs false = refl

pub bit_small : (t : Bool) → cond t 0 1 ≤ 1
bit_small true = omega arith
bit_small false = omega arith

-- n bytes give n bits
pub changed_small : (n : ℕ) (xs ys : List ℕ) → length xs ≤ n → changed_of xs ys < twos n
unfolding changed_of
changed_small n [] ys h = twos_some n
changed_small n (x ∷ xs) [] h = twos_some n
changed_small zero (x ∷ xs) (y ∷ ys) h = absurd (omega arith)
changed_small (suc n) (x ∷ xs) (y ∷ ys) h =
    omega (arith, bit_small (eqb x y), changed_small n xs ys (omega arith))

pub start : (xs ys : List ℕ) → length xs ≤ 16 → 0 ≡ changed_of (drop 16 xs) (drop 16 ys)
unfolding changed_of
start xs ys h = rw (drop_of_length-le xs h)

module _ (xs ys : List ℕ) (lx : length xs ≡ 16) (ly : length ys ≡ 16) (i bits : ℕ) (known : bits ≡ changed_of (drop i xs) (drop i ys)) (h : 0 < i) where
  pub room : bits < 32768
  room =
      let l : length (drop i xs) ≤ 15 = simp length-drop (omega arith) in
      rw known (changed_small 15 (drop i xs) (drop i ys) l)

  pub turn : (j d : ℕ) → i ≡ suc j → j < 16 → d ≡ bool_byte (not (eqb (get_or xs j 0) (get_or ys j 0))) → d + 2 * bits ≡ changed_of (drop j xs) (drop j ys)
  unfolding changed_of
  turn j d e k q =
      let hx : j < length xs = omega arith in
      let hy : j < length ys = omega arith in
      rw (drop-cons xs j 0 hx, drop-cons ys j 0 hy, q, differs (eqb (get_or xs j 0) (get_or ys j 0)), known, e)
