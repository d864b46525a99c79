-- Exclusive or is associative, so four terms may be put together otherwise; and a multiple by one bit goes through it.
-- Assumes nothing.
use mathlib.Core.Path.{◌≡◌, refl, sym, ◌∙◌, ap, ap₂}
use Prim.Native.Nat.{ℕ, zero, suc, ◌+◌, ◌*◌, ◌/◌, ◌%◌, ◌<◌}
use native.Mathlib.Nat.{zero-mul, one-mul}
use native.Mathlib.Omega.{arith}
use lib.Arith.{bin_ind}
use lib.Bits.{bit_xor, differ, xor_step, xor_shr, xor_mod, xor_comm, xor_self, xor_zero_l, xor_zero_r}

bits : (x y z : ℕ) → x < 2 → y < 2 → z < 2 → differ (bit_xor x y) z ≡ differ x (bit_xor y z)
bits zero zero zero p q r = refl
bits zero zero (suc zero) p q r = refl
bits zero (suc zero) zero p q r = refl
bits zero (suc zero) (suc zero) p q r = refl
bits (suc zero) zero zero p q r = refl
bits (suc zero) zero (suc zero) p q r = refl
bits (suc zero) (suc zero) zero p q r = refl
bits (suc zero) (suc zero) (suc zero) p q r = refl
bits zero zero (suc (suc z)) p q r = absurd (omega arith)
bits zero (suc zero) (suc (suc z)) p q r = absurd (omega arith)
bits zero (suc (suc y)) z p q r = absurd (omega arith)
bits (suc zero) zero (suc (suc z)) p q r = absurd (omega arith)
bits (suc zero) (suc zero) (suc (suc z)) p q r = absurd (omega arith)
bits (suc zero) (suc (suc y)) z p q r = absurd (omega arith)
bits (suc (suc x)) y z p q r = absurd (omega arith)

low : (n : ℕ) → n % 2 < 2
low n = omega arith

pub xor_assoc : (a b c : ℕ) → bit_xor (bit_xor a b) c ≡ bit_xor a (bit_xor b c)
xor_assoc =
    bin_ind (λ (a : ℕ). (b c : ℕ) → bit_xor (bit_xor a b) c ≡ bit_xor a (bit_xor b c))
    (λ b c. refl)
    (λ a ih b c.
    xor_step (bit_xor a b) c
    ∙ ap₂ (λ (x y : ℕ). bit_xor x (c / 2) * 2 + differ y (c % 2)) (xor_shr a b 1) (xor_mod a b 1)
    ∙ ap₂ (λ (x y : ℕ). x * 2 + y) (ih (b / 2) (c / 2)) (bits (a % 2) (b % 2) (c % 2) (low a) (low b) (low c))
    ∙ sym
    (xor_step a (bit_xor b c)
    ∙ ap₂ (λ (x y : ℕ). bit_xor (a / 2) x * 2 + differ (a % 2) y) (xor_shr b c 1) (xor_mod b c 1)))

pub xor_swap : (a b c d : ℕ) → bit_xor (bit_xor a b) (bit_xor c d) ≡ bit_xor (bit_xor a c) (bit_xor b d)
xor_swap a b c d =
    xor_assoc a b (bit_xor c d)
    ∙ ap (bit_xor a) (sym (xor_assoc b c d) ∙ ap (λ (x : ℕ). bit_xor x d) (xor_comm b c) ∙ xor_assoc c b d)
    ∙ sym (xor_assoc a c (bit_xor b d))

-- a polynomial, by two bits that fell out
pub xor_times : (p x y : ℕ) → x < 2 → y < 2 → bit_xor x y * p ≡ bit_xor (x * p) (y * p)
xor_times p zero zero h k = simp zero-mul refl
xor_times p zero (suc zero) h k = simp (zero-mul, one-mul) (sym (xor_zero_l p))
xor_times p (suc zero) zero h k = simp (zero-mul, one-mul) (sym (xor_zero_r p))
xor_times p (suc zero) (suc zero) h k = simp (zero-mul, one-mul) (sym (xor_self p))
xor_times p zero (suc (suc y)) h k = absurd (omega arith)
xor_times p (suc zero) (suc (suc y)) h k = absurd (omega arith)
xor_times p (suc (suc x)) y h k = absurd (omega arith)
