-- What only contracts inside this crate cite. What the directory means does not rest on it.
use Rattle.std.specs.Prelude.{◌≡◌, List, [], ◌++◌, ℕ, zero, suc, ◌+◌, ◌*◌, ◌^◌, ◌/◌, ◌%◌}
use Rattle.std.specs.Int.Bits.{bit_xor}
use Rattle.memory.specs.Memory.{byte_of, content_of}
use Rattle.directory.specs.Checksum.{byte_on, bytes_on}
use Rattle.directory.specs.declared.Part.{Part}
use Rattle.directory.specs.declared.Part.TheVariants.{First, Second}
use Rattle.layout.specs.Layout.{block_at}

-- the register after the last n bytes of a number, the highest of them first
unfoldable pub feed : ℕ → ℕ → ℕ → ℕ
feed zero c w = c
feed (suc n) c w = byte_on (feed n c (w / 256)) (w % 256)

-- a word stands for the register that its eight bytes leave of a register of zeros
abbrev pub standing : ℕ → ℕ
standing w = feed 8 0 w

-- a word holds some bytes: to feed the one is to feed the others
abbrev pub Holds : ℕ → List ℕ → Type 0
Holds w bytes = (c : ℕ) → feed 8 c w ≡ bytes_on c bytes

-- a shift up in 64 bits
abbrev pub shl : ℕ → ℕ → ℕ
shl k x = x * 2 ^ k % 2 ^ 64

-- what is left of a word when its bits from 50 on, then those from 25 on, then those from 16 on have come back lower down
abbrev pub low_bits_of : ℕ → ℕ
low_bits_of s =
    let a = bit_xor (bit_xor (s % 2 ^ 50) (s / 2 ^ 50)) (shl 2 (s / 2 ^ 50)) in
    let b = bit_xor (bit_xor (a % 2 ^ 25) (a / 2 ^ 25)) (shl 1 (a / 2 ^ 25)) in
    let c = b / 2 ^ 16 in
    bit_xor (bit_xor (bit_xor (b % 2 ^ 16) (shl 6 c)) (shl 3 c)) (shl 2 c)

-- two bytes as a number, k numbers after the start of a block
abbrev pub number_at : List ℕ → ℕ → ℕ → ℕ
number_at image first k = byte_of image (block_at (first + k / 8)) (2 * (k % 8)) + 256 * byte_of image (block_at (first + k / 8)) (2 * (k % 8) + 1)

-- the first block of a part, and the one after its last
abbrev pub first_of : Part → ℕ
first_of First = 1
first_of Second = 64

abbrev pub end_of : Part → ℕ
end_of First = 3
end_of Second = 67

-- the contents of some blocks, from one on
unfoldable pub contents : List ℕ → ℕ → ℕ → List ℕ
contents image zero b = []
contents image (suc n) b = content_of image (block_at b) ++ contents image n (b + 1)
