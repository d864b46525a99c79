-- The numbers of some bytes, one after the other, and the place of the first that is wanted.
-- Assumes nothing.
use mathlib.Core.Path.{◌≡◌, refl, sym, ◌∙◌, ap}
use mathlib.Core.Bool.{Bool, true, false}
use mathlib.Core.List.{List, [], ◌∷◌, ◌++◌}
use Prim.Native.Nat.{ℕ, zero, suc, ◌+◌, ◌*◌, ◌≤◌, ◌<◌}
use native.Mathlib.Omega.{arith}
use native.Mathlib.Nat.{add-zero}
use lib.Dec.{eqb}
use lib.ListN.{length, drop, get_or, length-drop, drop_of_length-le}
use lib.Seq.{drop-cons, drop-append-le}
use borrow.Author.Tests.{eq-eqb, ne_eqb}
use Rattle.std.specs.Prelude.{Option, Some, None}
use Rattle.directory.specs.Directory.{numbers_of}
use Rattle.directory.specs.Lookup.{place_from}

pub numbers_append : (n : ℕ) (xs ys : List ℕ) → length xs ≡ 2 * n → numbers_of (xs ++ ys) ≡ numbers_of xs ++ numbers_of ys
unfolding numbers_of
numbers_append n [] ys e = refl
numbers_append n (x ∷ []) ys e = absurd (omega arith)
numbers_append zero (x ∷ y ∷ xs) ys e = absurd (omega arith)
numbers_append (suc n) (x ∷ y ∷ xs) ys e = ap (λ (l : List ℕ). (x + 256 * y) ∷ l) (numbers_append n xs ys (omega arith))

pub numbers_length : (n : ℕ) (xs : List ℕ) → length xs ≡ 2 * n → length (numbers_of xs) ≡ n
unfolding numbers_of
numbers_length n [] e = omega arith
numbers_length n (x ∷ []) e = absurd (omega arith)
numbers_length zero (x ∷ y ∷ xs) e = absurd (omega arith)
numbers_length (suc n) (x ∷ y ∷ xs) e = ap suc (numbers_length n xs (omega arith))

pub number_at_lem : (i n : ℕ) (xs : List ℕ) → length xs ≡ 2 * n → get_or (numbers_of xs) i 0 ≡ get_or xs (2 * i) 0 + 256 * get_or xs (2 * i + 1) 0
unfolding numbers_of
number_at_lem i n [] e = refl
number_at_lem i n (x ∷ []) e = absurd (omega arith)
number_at_lem i zero (x ∷ y ∷ xs) e = absurd (omega arith)
number_at_lem zero (suc n) (x ∷ y ∷ xs) e = refl
number_at_lem (suc i) (suc n) (x ∷ y ∷ xs) e =
    let p : 2 * suc i ≡ suc (suc (2 * i)) = omega arith in
    let q : 2 * suc i + 1 ≡ suc (suc (2 * i + 1)) = omega arith in
    rw (q, p) (number_at_lem i n xs (omega arith))

-- one entry more of a loop over a block
module _ (l : List ℕ) (n : length l ≡ 16) (k : ℕ) (h : k < 8) where
  two : drop (2 * k) l ≡ get_or l (2 * k) 0 ∷ get_or l (2 * k + 1) 0 ∷ drop (2 * (k + 1)) l
  two =
      let p : 2 * k + 1 ≡ suc (2 * k) = omega arith in
      let q : 2 * (k + 1) ≡ suc (suc (2 * k)) = omega arith in
      rw (p, q, drop-cons l (2 * k) 0 (omega arith), drop-cons l (suc (2 * k)) 0 (omega arith))

  module _ (p w v : ℕ) (number : v ≡ get_or l (2 * k) 0 + 256 * get_or l (2 * k + 1) 0) where
    pub match_here : v ≡ w → Some p ≡ place_from p w (numbers_of (drop (2 * k) l))
    unfolding place_from numbers_of
    match_here e = rw (two, eq-eqb (get_or l (2 * k) 0 + 256 * get_or l (2 * k + 1) 0) w (sym number ∙ e))

    pub no_match : (q : ℕ) → (v ≡ w → ⊥) → q ≡ p + 1 → place_from q w (numbers_of (drop (2 * (k + 1)) l)) ≡ place_from p w (numbers_of (drop (2 * k) l))
    unfolding place_from numbers_of
    no_match q ne e =
        let s : q ≡ suc p = omega arith in
        rw (two, ne_eqb (get_or l (2 * k) 0 + 256 * get_or l (2 * k + 1) 0) w (λ z. ne (number ∙ z)), s)

pub none_left : (l : List ℕ) → length l ≡ 16 → (k p w : ℕ) → 8 ≤ k → None ≡ place_from p w (numbers_of (drop (2 * k) l))
unfolding place_from numbers_of
none_left l n k p w h = let end : length l ≤ 2 * k = omega arith in rw (drop_of_length-le l end)

-- the place in two lists, one after the other: in the first, or past it
pub stays : (xs ys : List ℕ) (p w r : ℕ) → place_from p w xs ≡ Some r → place_from p w (xs ++ ys) ≡ Some r
unfolding place_from
stays [] ys p w r e = cc
stays (x ∷ xs) ys p w r h = go (eqb x w) refl (stays xs ys (suc p) w r) h
  where
    Rest : Type 0
    Rest = place_from (suc p) w xs ≡ Some r → place_from (suc p) w (xs ++ ys) ≡ Some r

    go : (t : Bool) → eqb x w ≡ t → Rest → place_from p w (x ∷ xs) ≡ Some r → place_from p w (x ∷ xs ++ ys) ≡ Some r
    go true q rest e = rw q (rw q at e)
    go false q rest e = rw q (rest (rw q at e))

pub goes_on : (xs ys : List ℕ) (p w : ℕ) → place_from p w xs ≡ None → place_from (p + length xs) w ys ≡ place_from p w (xs ++ ys)
unfolding place_from
goes_on [] ys p w z = rw (add-zero p)
goes_on (x ∷ xs) ys p w z = go (eqb x w) refl (goes_on xs ys (suc p) w) z
  where
    Rest : Type 0
    Rest = place_from (suc p) w xs ≡ None → place_from (suc p + length xs) w ys ≡ place_from (suc p) w (xs ++ ys)

    go : (t : Bool) → eqb x w ≡ t → Rest → place_from p w (x ∷ xs) ≡ None → place_from (p + suc (length xs)) w ys ≡ place_from p w (x ∷ xs ++ ys)
    go true e rest z = let q : ◌≡◌ {A = Option ℕ} (Some p) None = rw e at z in cc
    go false e rest z =
        let q : p + suc (length xs) ≡ suc p + length xs = omega arith in
        rw (e, q) (rest (rw e at z))

-- the same for the blocks of a part: the first has seven entries, and each further one eight
module _ (a b : List ℕ) (n : length a ≡ 16) where
  seven : numbers_of (drop 2 (a ++ b)) ≡ numbers_of (drop 2 a) ++ numbers_of b
  seven = ap numbers_of (drop-append-le 2 a b (omega arith)) ∙ numbers_append 7 (drop 2 a) b (simp length-drop (omega arith))

  eight : numbers_of (a ++ b) ≡ numbers_of a ++ numbers_of b
  eight = numbers_append 8 a b n

  module _ (p w : ℕ) where
    pub in_first : (r : ℕ) → place_from p w (numbers_of (drop 2 a)) ≡ Some r → place_from p w (numbers_of (drop 2 (a ++ b))) ≡ Some r
    in_first r e = rw seven (stays (numbers_of (drop 2 a)) (numbers_of b) p w r e)

    pub past_first : place_from p w (numbers_of (drop 2 a)) ≡ None → place_from (p + 7) w (numbers_of b) ≡ place_from p w (numbers_of (drop 2 (a ++ b)))
    past_first z =
        let l : length (numbers_of (drop 2 a)) ≡ 7 = numbers_length 7 (drop 2 a) (simp length-drop (omega arith)) in
        rw (seven, ← l) (goes_on (numbers_of (drop 2 a)) (numbers_of b) p w z)

    pub in_next : (r : ℕ) → place_from p w (numbers_of a) ≡ Some r → place_from p w (numbers_of (a ++ b)) ≡ Some r
    in_next r e = rw eight (stays (numbers_of a) (numbers_of b) p w r e)

    pub past_next : place_from p w (numbers_of a) ≡ None → place_from (p + 8) w (numbers_of b) ≡ place_from p w (numbers_of (a ++ b))
    past_next z = rw (eight, ← (numbers_length 8 a n)) (goes_on (numbers_of a) (numbers_of b) p w z)
