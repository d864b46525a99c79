-- Sums of whole numbers, by their bits moved up by 2^31.
-- Assumes nothing.
use Rattle.std.proofs.Common.{Err, Ok}
use mathlib.Core.Path.{◌≡◌, refl, sym, ◌∙◌, ap}
use mathlib.Core.Bool.{Bool, true, false, ◌&&◌}
use Prim.Native.Nat.{ℕ, suc, ◌+◌, ◌-◌, ◌%◌, ◌<◌, ◌≤◌}
use native.Mathlib.Omega.{arith}
use lib.IntN.{ℤ, pos, negsuc, sub_ℕ}
use lib.Dec.{ltb, leb}
use borrow.Author.Tests.{lt-ltb, le-ltb, le-leb, lt-leb, ltb-true, ltb-false, leb-true}
use Rattle.value.specs.declared.sum.SumError.TheVariants.{Negative, Outside}
use Rattle.value.specs.Whole.{signed}
use Rattle.value.specs.Sum.{total_of, is_negative, ruled_of, plus_of, minus_of}
use Rattle.value.proofs.Ints.{sub_plus, sub_minus}

-- 32 bits moved up by 2^31: the order of these is that of the whole numbers
abbrev pub lift : ℕ → ℕ
lift v = (v + 2147483648) % 4294967296

-- the whole number of the bits v is the moved bits less 2^31
pub signed_is : (v : ℕ) → v < 4294967296 → signed v ≡ sub_ℕ (lift v) 2147483648
signed_is v h = go (ltb v 2147483648) refl
  where
    go : (t : Bool) → ltb v 2147483648 ≡ t → signed v ≡ sub_ℕ (lift v) 2147483648
    go true e =
        let l : v < 2147483648 = ltb-true v 2147483648 e in
        let a : lift v - 2147483648 ≡ v = omega arith in
        simp (e, le-ltb (lift v) 2147483648 (omega arith)) (ap pos (sym a))
    go false e =
        let l : 2147483648 ≤ v = ltb-false v 2147483648 e in
        let a : 2147483648 - suc (lift v) ≡ 4294967296 - suc v = omega arith in
        simp (e, lt-ltb (lift v) 2147483648 (omega arith)) (ap negsuc (sym a))

-- a difference held in 32 bits, or refused, by its two numbers
module _ (n m : ℕ) where
  pub total_low : n + 2147483648 < m → total_of (sub_ℕ n m) ≡ Err Outside
  unfolding total_of
  total_low h = simp (lt-ltb n m (omega arith), lt-leb (m - suc n) 2147483647 (omega arith))

  pub total_high : m + 2147483648 ≤ n → total_of (sub_ℕ n m) ≡ Err Outside
  unfolding total_of
  total_high h = simp (le-ltb n m (omega arith), lt-leb (n - m) 2147483647 (omega arith))

  pub total_in : m ≤ n + 2147483648 → n < m + 2147483648 → total_of (sub_ℕ n m) ≡ Ok (lift ((n + 2147483648) - m))
  unfolding total_of
  total_in l h = go (ltb n m) refl
    where
      go : (t : Bool) → ltb n m ≡ t → total_of (sub_ℕ n m) ≡ Ok (lift ((n + 2147483648) - m))
      go true e =
          let k : n < m = ltb-true n m e in
          let a : 4294967296 - suc (m - suc n) ≡ lift ((n + 2147483648) - m) = omega arith in
          simp (e, le-leb (m - suc n) 2147483647 (omega arith)) (ap Ok a)
      go false e =
          let k : m ≤ n = ltb-false n m e in
          let a : n - m ≡ lift ((n + 2147483648) - m) = omega arith in
          simp (e, le-leb (n - m) 2147483647 (omega arith)) (ap Ok a)

-- 32 bits from 2^31 on stand for a number below zero, and no others do
pub negative_is : (x : ℕ) → x < 4294967296 → leb 2147483648 x ≡ is_negative (signed x)
unfolding is_negative
negative_is x h = go (ltb x 2147483648) refl
  where
    go : (t : Bool) → ltb x 2147483648 ≡ t → leb 2147483648 x ≡ is_negative (signed x)
    go true e = simp (e, lt-leb 2147483648 x (ltb-true x 2147483648 e))
    go false e = simp (e, le-leb 2147483648 x (ltb-false x 2147483648 e))

-- the ways out of the code, in the words of its tests
module _ (v x : ℕ) (fv : v < 4294967296) (fx : x < 4294967296) where
  pub below_zero_lem : (result : ℤ) → is_negative (signed x) ≡ true → Err Negative ≡ ruled_of (signed x) result
  unfolding ruled_of
  below_zero_lem result e = rw e

  module _ (e : is_negative (signed x) ≡ false) where
    small : x < 2147483648
    small = ltb-true x 2147483648 (go (ltb x 2147483648) refl)
      where
        go : (t : Bool) → ltb x 2147483648 ≡ t → t ≡ true
        go true q = refl
        go false q = sym (rw (← (negative_is x fx)) at e) ∙ le-leb 2147483648 x (ltb-false x 2147483648 q)

    plus_is : plus_of v x ≡ total_of (sub_ℕ (lift v + lift x) 4294967296)
    unfolding ruled_of
    plus_is = rw e (ap total_of (rw (signed_is v fv, signed_is x fx) (sub_plus (lift v) 2147483648 (lift x) 2147483648)))

    minus_is : minus_of v x ≡ total_of (sub_ℕ (lift v + 2147483648) (2147483648 + lift x))
    unfolding ruled_of
    minus_is = rw e (ap total_of (rw (signed_is v fv, signed_is x fx) (sub_minus (lift v) 2147483648 (lift x) 2147483648)))

    pub plus_high : 4294967296 ≤ lift v + x → Err Outside ≡ plus_of v x
    plus_high h = sym (plus_is ∙ total_high (lift v + lift x) 4294967296 (omega (arith, small)))

    pub plus_in : (r : ℕ) → lift v + x < 4294967296 → r ≡ lift (lift v + x) → Ok r ≡ plus_of v x
    plus_in r h q =
        let k : r ≡ lift ((lift v + lift x + 2147483648) - 4294967296) = omega (arith, small) in
        ap Ok k ∙ sym (plus_is ∙ total_in (lift v + lift x) 4294967296 (omega (arith, small)) (omega (arith, small)))

    pub minus_low : lift v < x → Err Outside ≡ minus_of v x
    minus_low h = sym (minus_is ∙ total_low (lift v + 2147483648) (2147483648 + lift x) (omega (arith, small)))

    pub minus_in : (r : ℕ) → x ≤ lift v → r ≡ lift (lift v - x) → Ok r ≡ minus_of v x
    minus_in r l q =
        let k : r ≡ lift ((lift v + 2147483648 + 2147483648) - (2147483648 + lift x)) = omega (arith, small) in
        ap Ok k ∙ sym (minus_is ∙ total_in (lift v + 2147483648) (2147483648 + lift x) (omega (arith, small)) (omega (arith, small)))

and_true : (b : Bool) → (b && true) ≡ b
and_true true = refl
and_true false = refl

-- what is held is the number itself
pub total_back : (z : ℤ) (r : ℕ) → total_of z ≡ Ok r → (signed r ≡ z) × (r < 4294967296)
unfolding total_of
total_back (pos n) r e = go (leb n 2147483647) refl
  where
    go : (t : Bool) → leb n 2147483647 ≡ t → (signed r ≡ pos n) × (r < 4294967296)
    go true q =
        let p : Ok n ≡ Ok r = rw q at e in
        let h : n ≤ 2147483647 = leb-true n 2147483647 q in
        let i : n ≡ r = cc in
        (ap signed (sym i) ∙ simp (lt-ltb n 2147483648 (omega arith)), omega arith)
    go false q = let p : Err Outside ≡ Ok r = rw q at e in let z : ◌≡◌ {A = ℕ} 0 1 = cc in absurd (omega arith)
total_back (negsuc n) r e = go (leb n 2147483647) refl
  where
    go : (t : Bool) → leb n 2147483647 ≡ t → (signed r ≡ negsuc n) × (r < 4294967296)
    go true q =
        let p : Ok (4294967296 - suc n) ≡ Ok r = rw q at (simp and_true at e) in
        let h : n ≤ 2147483647 = leb-true n 2147483647 q in
        let i : 4294967296 - suc n ≡ r = cc in
        let j : 4294967296 - suc (4294967296 - suc n) ≡ n = omega arith in
        (ap signed (sym i) ∙ simp (le-ltb (4294967296 - suc n) 2147483648 (omega arith)) (ap negsuc j), omega arith)
    go false q = let p : Err Outside ≡ Ok r = rw q at (simp and_true at e) in let z : ◌≡◌ {A = ℕ} 0 1 = cc in absurd (omega arith)

-- a number of 32 bits is held as it is
pub total_same : (v : ℕ) → v < 4294967296 → total_of (signed v) ≡ Ok v
total_same v h =
    let e : lift ((lift v + 2147483648) - 2147483648) ≡ v = omega arith in
    ap total_of (signed_is v h) ∙ total_in (lift v) 2147483648 (omega arith) (omega arith) ∙ ap Ok e

-- a result that is held is the number itself, and its operand is not below zero
pub ruled_back : (operand result : ℤ) (r : ℕ) → ruled_of operand result ≡ Ok r → (is_negative operand ≡ false) × (signed r ≡ result) × (r < 4294967296)
unfolding ruled_of
ruled_back operand result r e = go (is_negative operand) refl
  where
    go : (t : Bool) → is_negative operand ≡ t → (is_negative operand ≡ false) × (signed r ≡ result) × (r < 4294967296)
    go true q = let p : Err Negative ≡ Ok r = rw q at e in let z : ◌≡◌ {A = ℕ} 0 1 = cc in absurd (omega arith)
    go false q = let b = total_back result r (rw q at e) in (q, b.0, b.1)
