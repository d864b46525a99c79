-- Differences of two naturals: they carry a sum of whole numbers over to numbers that `omega` reads.
-- Assumes nothing.
use mathlib.Core.Path.{◌≡◌, refl, sym, ◌∙◌, ap}
use Prim.Native.Nat.{ℕ, zero, suc, ◌+◌, ◌-◌}
use native.Mathlib.Omega.{arith}
use lib.IntN.{ℤ, pos, neg_ℤ, ◌+ℤ◌, ◌-ℤ◌, sub_ℕ, +ℤ_assoc, +ℤ_comm, neg_ℤ-+ℤ, neg_ℤ-neg_ℤ}
use borrow.Author.Tests.{le-ltb}

-- a − b, of two naturals, is the difference of the two as integers
pub sub_is : (a b : ℕ) → sub_ℕ a b ≡ pos a -ℤ pos b
sub_is a zero = let e : a - 0 ≡ a + 0 = omega arith in simp (le-ltb a 0 (omega arith)) (ap pos e)
sub_is a (suc b) = refl

-- sums of four, regrouped
swap : (a b c d : ℤ) → (a +ℤ b) +ℤ (c +ℤ d) ≡ (a +ℤ c) +ℤ (b +ℤ d)
swap a b c d =
    +ℤ_assoc a b (c +ℤ d)
    ∙ ap (λ (x : ℤ). a +ℤ x) (sym (+ℤ_assoc b c d) ∙ ap (λ (x : ℤ). x +ℤ d) (+ℤ_comm b c) ∙ +ℤ_assoc c b d)
    ∙ sym (+ℤ_assoc a c (b +ℤ d))

pub sub_plus : (a b c d : ℕ) → sub_ℕ a b +ℤ sub_ℕ c d ≡ sub_ℕ (a + c) (b + d)
sub_plus a b c d =
    ap (λ (x : ℤ). x +ℤ sub_ℕ c d) (sub_is a b)
    ∙ ap (λ (x : ℤ). (pos a -ℤ pos b) +ℤ x) (sub_is c d)
    ∙ swap (pos a) (neg_ℤ (pos b)) (pos c) (neg_ℤ (pos d))
    ∙ ap (λ (x : ℤ). pos (a + c) +ℤ x) (sym (neg_ℤ-+ℤ (pos b) (pos d)))
    ∙ sym (sub_is (a + c) (b + d))

pub neg_sub : (a b : ℕ) → neg_ℤ (sub_ℕ a b) ≡ sub_ℕ b a
neg_sub a b =
    ap neg_ℤ (sub_is a b) ∙ neg_ℤ-+ℤ (pos a) (neg_ℤ (pos b)) ∙ ap (λ (x : ℤ). neg_ℤ (pos a) +ℤ x) (neg_ℤ-neg_ℤ (pos b))
    ∙ +ℤ_comm (neg_ℤ (pos a)) (pos b)
    ∙ sym (sub_is b a)

pub sub_minus : (a b c d : ℕ) → sub_ℕ a b -ℤ sub_ℕ c d ≡ sub_ℕ (a + d) (b + c)
sub_minus a b c d = ap (λ (x : ℤ). sub_ℕ a b +ℤ x) (neg_sub c d) ∙ sub_plus a b d c
