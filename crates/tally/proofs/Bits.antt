-- Whole numbers as differences of two naturals, and 64 bits as their remainder: numbers that `omega` reads.
-- Assumes nothing.
use Rattle.std.proofs.Common.{◌≡◌, ℕ, zero, suc, ◌+◌, ◌-◌, ◌%◌, ◌<◌, ◌≤◌, Bool, true, false, cond, ◌&&◌, ltb, leb, ◌⊎◌, pos, negsuc, neg_ℤ, sym, refl, ap, ◌∙◌, inl, inr, arith, ltb-false, ltb-true, le-ltb, lt-ltb, le-leb, leb-false, leb-true}
use native.Mathlib.Nat.{add-mod, add-mod_right}
use lib.IntN.{sub_ℕ}
use lib.Signed.{le_z}
use borrow.Author.Tests.{lt-leb}
use Rattle.tally.specs.Whole.{whole, held, within}

-- 0 is a number less itself
pub none_is : (m : ℕ) → pos 0 ≡ sub_ℕ m m
none_is m = let e : 0 ≡ m - m = omega arith in simp (le-ltb m m (omega arith)) (ap pos e)

-- the order of a difference
low_is : (l n m : ℕ) → le_z (neg_ℤ (pos l)) (sub_ℕ n m) ≡ leb m (n + l)
low_is zero n m = go (ltb n m) refl
  where
    go : (t : Bool) → ltb n m ≡ t → le_z (pos 0) (sub_ℕ n m) ≡ leb m (n + 0)
    go true e = simp (e, lt-leb m (n + 0) (omega (arith, ltb-true n m e)))
    go false e = simp (e, le-leb m (n + 0) (omega (arith, ltb-false n m e)), le-leb 0 (n - m) (omega arith))
low_is (suc l) n m = go (ltb n m) refl (leb m (n + suc l)) refl
  where
    go : (t : Bool) → ltb n m ≡ t → (u : Bool) → leb m (n + suc l) ≡ u → le_z (negsuc l) (sub_ℕ n m) ≡ u
    go true e true f = let h : n < m = ltb-true n m e in simp (e, le-leb (m - suc n) l (omega (arith, leb-true m (n + suc l) f)))
    go true e false f = let h : n < m = ltb-true n m e in simp (e, lt-leb (m - suc n) l (omega (arith, leb-false m (n + suc l) f)))
    go false e true f = simp e
    go false e false f = absurd (omega (arith, ltb-false n m e, leb-false m (n + suc l) f))

high_is : (h n m : ℕ) → le_z (sub_ℕ n m) (pos h) ≡ leb n (m + h)
high_is h n m = go (ltb n m) refl (leb n (m + h)) refl
  where
    go : (t : Bool) → ltb n m ≡ t → (u : Bool) → leb n (m + h) ≡ u → le_z (sub_ℕ n m) (pos h) ≡ u
    go true e true f = simp e
    go true e false f = absurd (omega (arith, ltb-true n m e, leb-false n (m + h) f))
    go false e true f = let k : m ≤ n = ltb-false n m e in simp (e, le-leb (n - m) h (omega (arith, leb-true n (m + h) f)))
    go false e false f = let k : m ≤ n = ltb-false n m e in simp (e, lt-leb (n - m) h (omega (arith, leb-false n (m + h) f)))

-- a difference is in a range by two comparisons
pub within_is : (l h n m : ℕ) → within (neg_ℤ (pos l)) (pos h) (sub_ℕ n m) ≡ (leb m (n + l) && leb n (m + h))
within_is l h n m = rw (low_is l n m, high_is h n m)

-- the bits of a difference
pub held_is : (n m : ℕ) → m ≤ 18446744073709551616 → n < m + 18446744073709551616 → held (sub_ℕ n m) ≡ (n + (18446744073709551616 - m)) % 18446744073709551616
held_is n m s d = go (ltb n m) refl
  where
    go : (t : Bool) → ltb n m ≡ t → held (sub_ℕ n m) ≡ (n + (18446744073709551616 - m)) % 18446744073709551616
    go true e = let h : n < m = ltb-true n m e in simp e (omega arith)
    go false e = let h : m ≤ n = ltb-false n m e in simp e (omega arith)

-- what the bits stand for, as a difference
abbrev pub carry : ℕ → ℕ
carry s = cond (ltb s 9223372036854775808) 0 18446744073709551616

pub whole_is : (s : ℕ) → s < 18446744073709551616 → whole s ≡ sub_ℕ s (carry s)
whole_is s h = go (ltb s 9223372036854775808) refl
  where
    go : (t : Bool) → ltb s 9223372036854775808 ≡ t → whole s ≡ sub_ℕ s (carry s)
    go true e = let q : s - 0 ≡ s = omega arith in simp (e, le-ltb s 0 (omega arith)) (ap pos (sym q))
    go false e = simp (e, lt-ltb s 18446744073709551616 h)

-- a difference of 64 bits is what its bits stand for
pub whole_held : (n m : ℕ) → m ≤ 18446744073709551616 → m ≤ n + 9223372036854775808 → n < m + 9223372036854775808 → whole (held (sub_ℕ n m)) ≡ sub_ℕ n m
whole_held n m s l h = go (ltb n m) refl
  where
    go : (t : Bool) → ltb n m ≡ t → whole (held (sub_ℕ n m)) ≡ sub_ℕ n m
    go true e =
        let k : n < m = ltb-true n m e in
        let q : 18446744073709551616 - suc (18446744073709551616 - suc (m - suc n)) ≡ m - suc n = omega arith in
        simp (e, le-ltb (18446744073709551616 - suc (m - suc n)) 9223372036854775808 (omega arith)) (ap negsuc q)
    go false e =
        let k : m ≤ n = ltb-false n m e in
        simp (e, lt-ltb (n - m) 9223372036854775808 (omega arith))

-- bits added, and taken off, are the sum and the difference but for what is carried
pub bits_plus : (n m o d x y : ℕ) → m + d ≤ 18446744073709551616 → x ≡ (n + (18446744073709551616 - m)) % 18446744073709551616 → y ≡ (o + (18446744073709551616 - d)) % 18446744073709551616
    → (x + y) % 18446744073709551616 ≡ (n + o + (18446744073709551616 - (m + d))) % 18446744073709551616
bits_plus n m o d x y s e f =
    let a = n + (18446744073709551616 - m) in
    let b = o + (18446744073709551616 - d) in
    let i : a + b ≡ n + o + (18446744073709551616 - (m + d)) + 18446744073709551616 = omega arith in
    rw (e, f) (sym (add-mod a b 18446744073709551616) ∙ ap (λ (x : ℕ). x % 18446744073709551616) i ∙ add-mod_right (n + o + (18446744073709551616 - (m + d))) 18446744073709551616)

pub bits_minus : (s o d y : ℕ) → d ≤ 18446744073709551616 → y ≡ (o + (18446744073709551616 - d)) % 18446744073709551616 → o ≤ 18446744073709551616
    → (s + (18446744073709551616 - y)) % 18446744073709551616 ≡ (s + d + (18446744073709551616 - o)) % 18446744073709551616
bits_minus s o d y hd f ho = omega arith

pub both : (a b : Bool) → (a && b) ≡ true → (a ≡ true) × (b ≡ true)
both true b e = (refl, e)
both false b e = let z : ◌≡◌ {A = ℕ} 0 1 = cc in absurd (omega arith)

-- two pairs of comparisons that follow from each other
same_tests : (a b x y a' b' x' y' : ℕ) → (a ≤ b → x ≤ y → (a' ≤ b') × (x' ≤ y')) → (a' ≤ b' → x' ≤ y' → (a ≤ b) × (x ≤ y))
    → (leb a b && leb x y) ≡ (leb a' b' && leb x' y')
same_tests a b x y a' b' x' y' there back = go (leb a b) refl (leb x y) refl (leb a' b') refl (leb x' y') refl
  where
    go : (t : Bool) → leb a b ≡ t → (u : Bool) → leb x y ≡ u → (t' : Bool) → leb a' b' ≡ t' → (u' : Bool) → leb x' y' ≡ u' → (t && u) ≡ (t' && u')
    go true e true f true g true k = refl
    go true e true f false g u' k = absurd (omega (arith, leb-false a' b' g, (there (leb-true a b e) (leb-true x y f)).0))
    go true e true f true g false k = absurd (omega (arith, leb-false x' y' k, (there (leb-true a b e) (leb-true x y f)).1))
    go false e u f true g true k = absurd (omega (arith, leb-false a b e, (back (leb-true a' b' g) (leb-true x' y' k)).0))
    go true e false f true g true k = absurd (omega (arith, leb-false x y f, (back (leb-true a' b' g) (leb-true x' y' k)).1))
    go false e u f false g u' k = refl
    go false e u f true g false k = refl
    go true e false f false g u' k = refl
    go true e false f true g false k = refl

-- new bits r that come of the bits s by taking o off and adding n, both moved up by d: where the whole numbers are in a range of less than 2^40
-- both ways, so is what r stands for, and the other way round
module _ (l h s o n d r : ℕ) (hl : l ≤ 1099511627776) (hh : h ≤ 1099511627776) (hs : s < 18446744073709551616)
    (ho : o < 4294967296) (hn : n < 4294967296) (hd : d < 4294967296) (e : r ≡ (s + n + (18446744073709551616 - o)) % 18446744073709551616) where
  small : r < 18446744073709551616
  small = omega arith

  abbrev Same : ℕ → ℕ → Type 0
  Same k c = (leb (k + o + d) (s + d + n + l) && leb (s + d + n) (k + o + d + h)) ≡ (leb c (r + l) && leb r (c + h))

  by : (k c : ℕ) → (k + o + d ≤ s + d + n + l → s + d + n ≤ k + o + d + h → (c ≤ r + l) × (r ≤ c + h))
      → (c ≤ r + l → r ≤ c + h → (k + o + d ≤ s + d + n + l) × (s + d + n ≤ k + o + d + h)) → Same k c
  by k c = same_tests (k + o + d) (s + d + n + l) (s + d + n) (k + o + d + h) c (r + l) r (c + h)

  tests : (t : Bool) → ltb s 9223372036854775808 ≡ t → (u : Bool) → ltb r 9223372036854775808 ≡ u → Same (cond t 0 18446744073709551616) (cond u 0 18446744073709551616)
  tests true f true g =
      let i : s < 9223372036854775808 = ltb-true s 9223372036854775808 f in
      let j : r < 9223372036854775808 = ltb-true r 9223372036854775808 g in
      by 0 0 (λ a b. (omega arith, omega arith)) (λ a b. (omega arith, omega arith))
  tests true f false g =
      let i : s < 9223372036854775808 = ltb-true s 9223372036854775808 f in
      let j : 9223372036854775808 ≤ r = ltb-false r 9223372036854775808 g in
      by 0 18446744073709551616 (λ a b. (omega arith, omega arith)) (λ a b. (omega arith, omega arith))
  tests false f true g =
      let i : 9223372036854775808 ≤ s = ltb-false s 9223372036854775808 f in
      let j : r < 9223372036854775808 = ltb-true r 9223372036854775808 g in
      by 18446744073709551616 0 (λ a b. (omega arith, omega arith)) (λ a b. (omega arith, omega arith))
  tests false f false g =
      let i : 9223372036854775808 ≤ s = ltb-false s 9223372036854775808 f in
      let j : 9223372036854775808 ≤ r = ltb-false r 9223372036854775808 g in
      by 18446744073709551616 18446744073709551616 (λ a b. (omega arith, omega arith)) (λ a b. (omega arith, omega arith))

  pub same_range : within (neg_ℤ (pos l)) (pos h) (sub_ℕ (s + d + n) (carry s + o + d)) ≡ within (neg_ℤ (pos l)) (pos h) (whole r)
  same_range =
      within_is l h (s + d + n) (carry s + o + d)
      ∙ tests (ltb s 9223372036854775808) refl (ltb r 9223372036854775808) refl
      ∙ sym (within_is l h r (carry r))
      ∙ ap (within (neg_ℤ (pos l)) (pos h)) (sym (whole_is r small))

  -- and then r is the new number's bits
  abbrev Carried : ℕ → Type 0
  Carried k = (k ≡ 0) ⊎ (k ≡ 18446744073709551616)

  bits_at : (k : ℕ) → Carried k → k + o + d ≤ s + d + n + l → s + d + n ≤ k + o + d + h → held (sub_ℕ (s + d + n) (k + o + d)) ≡ r
  bits_at k (inl i) a b = go (ltb (s + d + n) (k + o + d)) refl
    where
      go : (t : Bool) → ltb (s + d + n) (k + o + d) ≡ t → held (sub_ℕ (s + d + n) (k + o + d)) ≡ r
      go true f = let j = ltb-true (s + d + n) (k + o + d) f in simp f (omega arith)
      go false f = let j = ltb-false (s + d + n) (k + o + d) f in simp f (omega arith)
  bits_at k (inr i) a b = go (ltb (s + d + n) (k + o + d)) refl
    where
      go : (t : Bool) → ltb (s + d + n) (k + o + d) ≡ t → held (sub_ℕ (s + d + n) (k + o + d)) ≡ r
      go true f = let j = ltb-true (s + d + n) (k + o + d) f in simp f (omega arith)
      go false f = let j = ltb-false (s + d + n) (k + o + d) f in simp f (omega arith)

  carried : (t : Bool) → Carried (cond t 0 18446744073709551616)
  carried true = inl refl
  carried false = inr refl

  pub same_bits : within (neg_ℤ (pos l)) (pos h) (sub_ℕ (s + d + n) (carry s + o + d)) ≡ true → held (sub_ℕ (s + d + n) (carry s + o + d)) ≡ r
  same_bits w =
      let a = both (leb (carry s + o + d) (s + d + n + l)) (leb (s + d + n) (carry s + o + d + h)) (sym (within_is l h (s + d + n) (carry s + o + d)) ∙ w) in
      bits_at (carry s) (carried (ltb s 9223372036854775808)) (leb-true _ _ a.0) (leb-true _ _ a.1)
