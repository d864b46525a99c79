-- Value blocks: a value and an address byte in sixteen bytes.
use Rattle.std.specs.Prelude.{Bool, true, false, ◌&&◌, cond, List, [], ◌∷◌, ◌++◌, map, ℕ, ◌+◌, ◌*◌, ◌-◌, ◌/◌, ◌%◌, eqb, ℤ, get_or, None, Option, Some}
use Rattle.value.specs.Whole.{signed, bits}

-- four bytes as one number, low byte first
abbrev pub word_of : ℕ → ℕ → ℕ → ℕ → ℕ
word_of b₀ b₁ b₂ b₃ = b₀ + 256 * b₁ + 65536 * b₂ + 16777216 * b₃

-- the four bytes of 32 bits, low byte first
abbrev pub four_of : ℕ → List ℕ
four_of n = (n % 256) ∷ (n / 256 % 256) ∷ (n / 65536 % 256) ∷ (n / 16777216 % 256) ∷ []

-- bytes inverted
abbrev pub inverted : List ℕ → List ℕ
inverted = map (λ b. 255 - b)

-- an address byte four times, every other time inverted
abbrev pub address_of : ℕ → List ℕ
address_of a = a ∷ (255 - a) ∷ a ∷ (255 - a) ∷ []

-- the value block: the value three times, the second time inverted, then the address byte
unfoldable pub encode_of : ℤ → ℕ → List ℕ
encode_of value address =
    four_of (bits value) ++ (inverted (four_of (bits value)) ++ (four_of (bits value) ++ address_of address))

-- the 32 bits that bytes 0 to 3 hold
abbrev pub bits_in : List ℕ → ℕ
bits_in block = word_of (get_or block 0 0) (get_or block 1 0) (get_or block 2 0) (get_or block 3 0)

-- the address byte that byte 12 holds
abbrev pub address_in : List ℕ → ℕ
address_in block = get_or block 12 0

-- two lists agree byte for byte
abbrev pub same : List ℕ → List ℕ → Bool
same [] [] = true
same [] (y ∷ ys) = false
same (x ∷ xs) [] = false
same (x ∷ xs) (y ∷ ys) = eqb x y && same xs ys

-- all sixteen bytes are those of the value and the address byte that stand in the block
unfoldable pub agreeing : List ℕ → Bool
agreeing block = same block (encode_of (signed (bits_in block)) (address_in block))

-- what a block holds: a value, as its bits, and an address byte; or it is no value block
unfoldable pub decode_of : List ℕ → Option (ℕ × ℕ)
decode_of block = cond (agreeing block) (Some (bits_in block, address_in block)) None
