-- Access bits: which bits C1 C2 C3 a group has, and when a sector is blocked.
use Rattle.std.specs.Prelude.{ℕ, ◌+◌, ◌*◌, ◌-◌, ◌/◌, ◌%◌, ◌^◌, Bool, ◌&&◌, cond, List, eqb, get_or, None, Option, Some}
use Rattle.layout.specs.Layout.{group_number}
use Rattle.layout.specs.declared.Group.{Group}
use Rattle.access.specs.declared.bits.AccessBytes.{AccessBytes}

-- where a trailer keeps its access bytes
unfoldable pub access_bytes_of : List ℕ → AccessBytes
access_bytes_of trailer = record { 0 = get_or trailer 6 0; 1 = get_or trailer 7 0; 2 = get_or trailer 8 0 }

-- the six nibbles, in the order of the bytes and the high one first
abbrev pub inverted_c2 : AccessBytes → ℕ
inverted_c2 x = x.0 / 16

abbrev pub inverted_c1 : AccessBytes → ℕ
inverted_c1 x = x.0 % 16

abbrev pub C1 : AccessBytes → ℕ
C1 x = x.1 / 16

abbrev pub inverted_c3 : AccessBytes → ℕ
inverted_c3 x = x.1 % 16

abbrev pub C3 : AccessBytes → ℕ
C3 x = x.2 / 16

abbrev pub C2 : AccessBytes → ℕ
C2 x = x.2 % 16

-- a nibble and its inverse make fifteen
abbrev pub agree : ℕ → ℕ → Bool
agree n inverted = eqb (n + inverted) 15

-- each nibble agrees with its inverse
unfoldable pub well_formed : AccessBytes → Bool
well_formed x = agree (C1 x) (inverted_c1 x) && agree (C2 x) (inverted_c2 x) && agree (C3 x) (inverted_c3 x)

-- a group has the bit of its number in each nibble
unfoldable pub bit_of : ℕ → Group → ℕ
bit_of nibble g = nibble / 2 ^ group_number g % 2

-- C1 C2 C3 of a group, read as a binary number
unfoldable pub group_bits : AccessBytes → Group → ℕ
group_bits x g = 4 * bit_of (C1 x) g + 2 * bit_of (C2 x) g + bit_of (C3 x) g

-- blocked, or the bits
unfoldable pub bits_of : AccessBytes → Group → Option ℕ
bits_of x g = cond (well_formed x) (Some (group_bits x g)) None

-- a nibble from one bit of each of four groups
unfoldable pub nibble_of : (ℕ → ℕ) → ℕ → ℕ → ℕ → ℕ → ℕ
nibble_of bit g₀ g₁ g₂ g₃ = bit g₀ + 2 * bit g₁ + 4 * bit g₂ + 8 * bit g₃

-- the access bytes of four groups' bits
unfoldable pub encode_bits : ℕ → ℕ → ℕ → ℕ → AccessBytes
encode_bits g₀ g₁ g₂ g₃ =
    let c1 = nibble_of (λ n. n / 4 % 2) g₀ g₁ g₂ g₃ in
    let c2 = nibble_of (λ n. n / 2 % 2) g₀ g₁ g₂ g₃ in
    let c3 = nibble_of (λ n. n % 2) g₀ g₁ g₂ g₃ in
    record { 0 = 16 * (15 - c2) + (15 - c1); 1 = 16 * c1 + (15 - c3); 2 = 16 * c3 + c2 }
