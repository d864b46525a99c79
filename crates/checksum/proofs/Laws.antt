-- Checksums: the standard's examples, that one fits sixteen bits, and that a frame with its own checksum comes to nothing.
-- Assumes nothing.
use mathlib.Core.Path.{◌≡◌, refl, ◌∙◌, ap, ap₂}
use mathlib.Core.List.{List, [], ◌∷◌, ◌++◌}
use Prim.Native.Nat.{ℕ, zero, suc, ◌*◌, ◌/◌, ◌%◌, ◌<◌}
use native.Mathlib.Omega.{arith}
use lib.ListN.{get_or}
use lib.Bits.{bit_xor, xor_lt, xor_self, xor_zero_r}
use Rattle.checksum.specs.Checksum.{shifted, shifts, byte_on, bytes_on, crc_of, two_of}
use Rattle.xor.proofs.Xor.{xor_assoc}
use Rattle.std.proofs.lemmas.List.Sums.{fold-append}
use Rattle.checksum.proofs.Linear.{parts, down}

-- 00 00 has A0 1E, and 12 34 has 26 CF
pub example_zeros : two_of (crc_of (0x00 ∷ 0x00 ∷ [])) ≡ 0xA0 ∷ 0x1E ∷ []
unfolding two_of crc_of bytes_on byte_on shifts shifted
example_zeros = refl

pub example_1234 : two_of (crc_of (0x12 ∷ 0x34 ∷ [])) ≡ 0x26 ∷ 0xCF ∷ []
unfolding two_of crc_of bytes_on byte_on shifts shifted
example_1234 = refl

-- a register of sixteen bits stays one
shifted_fits : (c : ℕ) → c < 65536 → shifted c < 65536
unfolding shifted
shifted_fits c h = xor_lt 16 (c / 2) (c % 2 * 0x8408) (omega arith) (omega arith)

shifts_fit : (n c : ℕ) → c < 65536 → shifts n c < 65536
unfolding shifts
shifts_fit zero c h = h
shifts_fit (suc n) c h = shifts_fit n (shifted c) (shifted_fits c h)

bytes_fit : (c : ℕ) (bytes : List ℕ) → c < 65536 → ((i : ℕ) → get_or bytes i 0 < 256) → bytes_on c bytes < 65536
unfolding bytes_on byte_on
bytes_fit c [] h small = h
bytes_fit c (b ∷ bs) h small =
    bytes_fit (byte_on c b) bs (shifts_fit 8 (bit_xor c b) (xor_lt 16 c b h (omega (arith, small 0)))) (λ i. small (suc i))

-- so a checksum of bytes fits them
pub crc_fits : (bytes : List ℕ) → ((i : ℕ) → get_or bytes i 0 < 256) → crc_of bytes < 65536
unfolding crc_of
crc_fits bytes small = bytes_fit 0x6363 bytes (omega arith) small

-- a register's own low byte leaves its high part, and that byte leaves nothing
low_byte : (c : ℕ) → byte_on c (c % 256) ≡ c / 256
unfolding byte_on
low_byte c =
    let cleared : bit_xor c (c % 256) ≡ c / 256 * 256 =
    ap (λ (x : ℕ). bit_xor x (c % 256)) (parts c)
    ∙ xor_assoc (c / 256 * 256) (c % 256) (c % 256)
    ∙ ap (bit_xor (c / 256 * 256)) (xor_self (c % 256))
    ∙ xor_zero_r (c / 256 * 256) in
    ap (shifts 8) cleared ∙ down 8 (c / 256)

own_byte : (c : ℕ) → byte_on c c ≡ 0
unfolding byte_on
own_byte c = ap (shifts 8) (xor_self c) ∙ down 8 0

-- bytes with their own checksum after them come to 0
pub residue : (bytes : List ℕ) → ((i : ℕ) → get_or bytes i 0 < 256) → crc_of (bytes ++ two_of (crc_of bytes)) ≡ 0
unfolding crc_of two_of bytes_on
residue bytes small =
    let c = crc_of bytes in
    let fits : c < 65536 = crc_fits bytes small in
    let high : c / 256 % 256 ≡ c / 256 = omega arith in
    fold-append byte_on 0x6363 bytes (two_of c)
    ∙ ap₂ byte_on (low_byte c) high
    ∙ own_byte (c / 256)
