-- Shift steps are linear, and a high byte comes down whole: eight of them go by the low byte's entry in a table.
-- Assumes nothing.
use mathlib.Core.Path.{◌≡◌, refl, sym, ◌∙◌, ap, ap₂}
use Prim.Native.Nat.{ℕ, zero, suc, ◌+◌, ◌*◌, ◌/◌, ◌%◌, ◌^◌}
use native.Mathlib.Omega.{arith}
use lib.Bits.{bit_xor, xor_shr, xor_mod, xor_zero_r, xor_shifted, shifted_half, shifted_even}
use Rattle.checksum.specs.Checksum.{shifted, shifts}
use Rattle.xor.proofs.Xor.{xor_swap, xor_times}

shifted_xor : (a b : ℕ) → shifted (bit_xor a b) ≡ bit_xor (shifted a) (shifted b)
unfolding shifted
shifted_xor a b =
    ap₂ (λ (x y : ℕ). bit_xor x (y * 0x8408)) (xor_shr a b 1) (xor_mod a b 1)
    ∙ ap (bit_xor (bit_xor (a / 2) (b / 2))) (xor_times 0x8408 (a % 2) (b % 2) (omega arith) (omega arith))
    ∙ xor_swap (a / 2) (b / 2) (a % 2 * 0x8408) (b % 2 * 0x8408)

shifts_xor : (n a b : ℕ) → shifts n (bit_xor a b) ≡ bit_xor (shifts n a) (shifts n b)
unfolding shifts
shifts_xor zero a b = refl
shifts_xor (suc n) a b = ap (shifts n) (shifted_xor a b) ∙ shifts_xor n (shifted a) (shifted b)

shifted_even_down : (h n : ℕ) → shifted (h * 2 ^ suc n) ≡ h * 2 ^ n
unfolding shifted
shifted_even_down h n = ap₂ (λ (x y : ℕ). bit_xor x (y * 0x8408)) (shifted_half h n) (shifted_even h n) ∙ xor_zero_r (h * 2 ^ n)

-- as many zeros as steps: no one falls out
pub down : (n h : ℕ) → shifts n (h * 2 ^ n) ≡ h
unfolding shifts
down zero h = omega arith
down (suc n) h = ap (shifts n) (shifted_even_down h n) ∙ down n h

-- a number is its high part and its low byte
pub parts : (x : ℕ) → x ≡ bit_xor (x / 256 * 256) (x % 256)
parts x =
    let e : x ≡ x / 256 * 256 + x % 256 = omega arith in
    e ∙ sym (xor_shifted (x / 256) 8 (x % 256) (omega arith))

-- so eight steps are the high part, and what they make of the low byte
pub eight : (x : ℕ) → shifts 8 x ≡ bit_xor (x / 256) (shifts 8 (x % 256))
eight x =
    ap (shifts 8) (parts x)
    ∙ shifts_xor 8 (x / 256 * 256) (x % 256)
    ∙ ap (λ (y : ℕ). bit_xor y (shifts 8 (x % 256))) (down 8 (x / 256))
