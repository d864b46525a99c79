-- A sector's access bytes, written from the bits of its four groups and read back.
use Rattle.std.specs.Prelude.{Bool, cond, ◌&&◌, List, [], ◌∷◌, ℕ, ◌+◌, ◌*◌, ◌-◌, eqb, ltb, length, get_or, set, Result, Ok, Err, is_ok, None, Option, Some}
use Rattle.std.specs.Result.{result_and}
use Rattle.layout.specs.Layout.{sectors_of, has_sector, trailer_of}
use Rattle.layout.specs.declared.Sector.{Sector}
use Rattle.layout.specs.declared.Group.TheVariants.{First, Second, Third, Trailer}
use Rattle.memory.specs.Memory.{content_of, store_of}
use Rattle.access.specs.Bits.{access_bytes_of, well_formed, group_bits, encode_bits}
use Rattle.access.specs.declared.bits.AccessBytes.{AccessBytes}
use Rattle.issue.specs.declared.AccessRefusal.{AccessRefusal}
use Rattle.issue.specs.declared.AccessRefusal.TheVariants.{NoSector, NoCard, NotBits}
use Rattle.issue.specs.declared.AccessRefusal.TheVariants as refusal

-- the bits of each of four groups are 0 to 7
unfoldable pub are_bits : List ℕ → Bool
are_bits bits =
    ((ltb (get_or bits 0 0) 8 && ltb (get_or bits 1 0) 8) && ltb (get_or bits 2 0) 8) && ltb (get_or bits 3 0) 8

-- a refusal's number
abbrev pub access_number : AccessRefusal → ℕ
access_number NoSector = 2
access_number refusal.Blocked = 5
access_number NoCard = 11
access_number NotBits = 28

-- the refusal of a sector: no card has this size; then no such sector
unfoldable pub sector_refusal : ℕ → Sector → Result (Unit {0}) AccessRefusal
sector_refusal bytes s = cond (eqb (sectors_of bytes) 0) (Err NoCard) (cond (has_sector bytes s) (Ok tt) (Err NoSector))

-- the refusal of the call: that of the sector; then a group's bits above 7
unfoldable pub access_refusal : ℕ → Sector → List ℕ → Result (Unit {0}) AccessRefusal
access_refusal bytes s bits = result_and (sector_refusal bytes s) (cond (are_bits bits) (Ok tt) (Err NotBits))

-- the access bytes of four groups' bits, in the order of the groups
unfoldable pub access_for : List ℕ → AccessBytes
access_for bits = encode_bits (get_or bits 0 0) (get_or bits 1 0) (get_or bits 2 0) (get_or bits 3 0)

-- three nibbles with their inverses, as access bytes have them; only the code's own contracts cite it
abbrev pub with_inverses : ℕ → ℕ → ℕ → AccessBytes
with_inverses c1 c2 c3 = record { 0 = 16 * (15 - c2) + (15 - c1); 1 = 16 * c1 + (15 - c3); 2 = 16 * c3 + c2 }

-- a trailer with other access bytes: bytes 6, 7 and 8
unfoldable pub with_access : List ℕ → AccessBytes → List ℕ
with_access trailer x = set (set (set trailer 6 x.0) 7 x.1) 8 x.2

-- the image after the call: as it was where the call is refused
unfoldable pub access_image : List ℕ → Sector → List ℕ → List ℕ
access_image image s bits =
    cond (is_ok (access_refusal (length image) s bits))
    (store_of image (trailer_of s) (with_access (content_of image (trailer_of s)) (access_for bits)))
    image

-- a group's bits; 0 where the sector is blocked
unfoldable pub bits_in : Option ℕ → ℕ
bits_in None = 0
bits_in (Some n) = n

-- what access bytes say: the bits of the four groups in their order; or the sector is blocked
unfoldable pub told_by : AccessBytes → Result (List ℕ) AccessRefusal
told_by x =
    cond (well_formed x)
    (Ok (group_bits x First ∷ group_bits x Second ∷ group_bits x Third ∷ group_bits x Trailer ∷ []))
    (Err refusal.Blocked)

-- what is read of a sector: its refusal; else what its access bytes say
unfoldable pub read_access : List ℕ → Sector → Result (List ℕ) AccessRefusal
read_access image s = result_and (sector_refusal (length image) s) (told_by (access_bytes_of (content_of image (trailer_of s))))
