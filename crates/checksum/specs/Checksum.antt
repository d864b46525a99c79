-- CRC_A of ISO/IEC 14443-3, bit by bit, the low bit first.
use Rattle.std.specs.Prelude.{List, [], ◌∷◌, ℕ, zero, suc, ◌*◌, ◌/◌, ◌%◌, fold}
use Rattle.std.specs.Int.Bits.{bit_xor}

-- a shift step: one bit down, and where a one fell out the polynomial put in
unfoldable pub shifted : ℕ → ℕ
shifted c = bit_xor (c / 2) (c % 2 * 0x8408)

-- some shift steps
unfoldable pub shifts : ℕ → ℕ → ℕ
shifts zero c = c
shifts (suc n) c = shifts n (shifted c)

-- a byte: put into the register's low byte, then eight shift steps
unfoldable pub byte_on : ℕ → ℕ → ℕ
byte_on c b = shifts 8 (bit_xor c b)

-- one byte after the other
unfoldable pub bytes_on : ℕ → List ℕ → ℕ
bytes_on c bytes = fold byte_on c bytes

-- the checksum of some bytes: what the register then holds, from 6363h on
unfoldable pub crc_of : List ℕ → ℕ
crc_of bytes = bytes_on 0x6363 bytes

-- as it is sent: low byte, high byte
unfoldable pub two_of : ℕ → List ℕ
two_of crc = (crc % 256) ∷ (crc / 256 % 256) ∷ []
