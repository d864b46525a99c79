-- The directory's checksum, bit by bit, the high bit first.
use Rattle.std.specs.Prelude.{List, [], ◌∷◌, ℕ, zero, suc, ◌*◌, ◌/◌, ◌%◌}
use Rattle.std.specs.Int.Bits.{bit_xor}

-- a shift step: one bit up, and where a one fell out the polynomial put in
unfoldable pub shifted : ℕ → ℕ
shifted c = bit_xor (c * 2 % 256) (c / 128 % 2 * 0x1D)

-- some shift steps
unfoldable pub shifts : ℕ → ℕ → ℕ
shifts zero c = c
shifts (suc n) c = shifts n (shifted c)

-- a byte: put into the register, then eight shift steps
unfoldable pub byte_on : ℕ → ℕ → ℕ
byte_on c b = shifts 8 (bit_xor c b)

-- one byte after the other
unfoldable pub bytes_on : ℕ → List ℕ → ℕ
bytes_on c [] = c
bytes_on c (b ∷ bs) = bytes_on (byte_on c b) bs

-- the checksum of some bytes: what the register then holds, from C7h on
unfoldable pub checksum_of : List ℕ → ℕ
checksum_of bytes = bytes_on 0xC7 bytes
