-- Functions that go through exclusive or: two of them that agree on the powers of two agree.
-- Assumes nothing.
use mathlib.Core.Path.{◌≡◌, refl, sym, ◌∙◌, ap, ap₂}
use mathlib.Core.Bool.{Bool, true, false, ◌&&◌, false≢true}
use Prim.Native.Nat.{ℕ, zero, suc, ◌+◌, ◌*◌, ◌/◌, ◌%◌, ◌^◌, ◌<◌}
use native.Mathlib.Nat.{add-zero, zero-mul, one-mul, mod-lt}
use native.Mathlib.Omega.{arith}
use lib.Dec.{eqb}
use lib.Pow.{pow_pos, shr_lt, split}
use lib.Bits.{bit_xor, xor_shr, xor_mod, xor_self, xor_block, xor_shifted}
use borrow.Author.Tests.{eqb-true}
use Rattle.xor.proofs.Xor.{xor_swap}

abbrev pub Linear : (ℕ → ℕ) → Type 0
Linear f = (a b : ℕ) → f (bit_xor a b) ≡ bit_xor (f a) (f b)

-- what is made of such functions by exclusive or, by shifts and by cutting off is one too
pub whole : Linear (λ (x : ℕ). x)
whole a b = refl

pub both : (f g : ℕ → ℕ) → Linear f → Linear g → Linear (λ (x : ℕ). bit_xor (f x) (g x))
both f g p q a b = ap₂ bit_xor (p a b) (q a b) ∙ xor_swap (f a) (f b) (g a) (g b)

pub down : (k : ℕ) (f : ℕ → ℕ) → Linear f → Linear (λ (x : ℕ). f x / 2 ^ k)
down k f p a b = ap (λ (y : ℕ). y / 2 ^ k) (p a b) ∙ xor_shr (f a) (f b) k

pub cut : (k : ℕ) (f : ℕ → ℕ) → Linear f → Linear (λ (x : ℕ). f x % 2 ^ k)
cut k f p a b = ap (λ (y : ℕ). y % 2 ^ k) (p a b) ∙ xor_mod (f a) (f b) k

scaled : (k a b : ℕ) → bit_xor a b * 2 ^ k ≡ bit_xor (a * 2 ^ k) (b * 2 ^ k)
scaled k a b = sym (simp add-zero at (xor_block k a b 0 0 (pow_pos k) (pow_pos k)))

pub up : (n k : ℕ) (f : ℕ → ℕ) → Linear f → Linear (λ (x : ℕ). f x * 2 ^ k % 2 ^ n)
up n k f p a b =
    ap (λ (y : ℕ). y * 2 ^ k % 2 ^ n) (p a b)
    ∙ ap (λ (y : ℕ). y % 2 ^ n) (scaled k (f a) (f b))
    ∙ xor_mod (f a * 2 ^ k) (f b * 2 ^ k) n

-- the test: do they agree on the first n powers of two?
abbrev pub alike : (ℕ → ℕ) → (ℕ → ℕ) → ℕ → Bool
alike f g zero = true
alike f g (suc n) = eqb (f (2 ^ n)) (g (2 ^ n)) && alike f g n

and_left : (t u : Bool) → (t && u) ≡ true → t ≡ true
and_left true u e = refl
and_left false u e = absurd (false≢true e)

and_right : (t u : Bool) → (t && u) ≡ true → u ≡ true
and_right true u e = e
and_right false u e = absurd (false≢true e)

nothing : (f : ℕ → ℕ) → Linear f → f 0 ≡ 0
nothing f p = p 0 0 ∙ xor_self (f 0)

module _ (f g : ℕ → ℕ) (p : Linear f) (q : Linear g) where
  top : (n : ℕ) → f (2 ^ n) ≡ g (2 ^ n) → (h : ℕ) → h < 2 → f (h * 2 ^ n) ≡ g (h * 2 ^ n)
  top n e zero l = rw (zero-mul (2 ^ n)) (nothing f p ∙ sym (nothing g q))
  top n e (suc zero) l = rw (one-mul (2 ^ n)) e
  top n e (suc (suc h)) l = absurd (omega arith)

  pub agree : (n : ℕ) → alike f g n ≡ true → (x : ℕ) → x < 2 ^ n → f x ≡ g x
  agree zero t x l = let z : x ≡ 0 = omega arith in rw z (nothing f p ∙ sym (nothing g q))
  agree (suc n) t x l =
      let first : f (2 ^ n) ≡ g (2 ^ n) = eqb-true (f (2 ^ n)) (g (2 ^ n)) (and_left (eqb (f (2 ^ n)) (g (2 ^ n))) (alike f g n) t) in
      let rest = and_right (eqb (f (2 ^ n)) (g (2 ^ n))) (alike f g n) t in
      let h = x / 2 ^ n in
      let r = x % 2 ^ n in
      let one : 1 + n ≡ suc n = omega arith in
      let small : r < 2 ^ n = mod-lt x (pow_pos n) in
      let parts : x ≡ bit_xor (h * 2 ^ n) r = sym (xor_shifted h n r small ∙ split x n) in
      ap f parts
      ∙ p (h * 2 ^ n) r
      ∙ ap₂ bit_xor (top n first h (shr_lt 1 n (rw one l))) (agree n rest r small)
      ∙ sym (q (h * 2 ^ n) r)
      ∙ sym (ap g parts)
