-- Where blocks stand: the image sizes, sectors, trailers and access groups.
use Rattle.std.specs.Prelude.{ℕ, ◌+◌, ◌*◌, ◌-◌, ◌/◌, ◌%◌, Bool, cond, ltb, leb, eqb}
use Rattle.layout.specs.declared.Block.{Block}
use Rattle.layout.specs.declared.Sector.{Sector}
use Rattle.layout.specs.declared.Group.{Group}
use Rattle.layout.specs.declared.Group.TheVariants.{First, Second, Third, Trailer}

-- a block address, and a sector number, by its number
abbrev pub block_at : ℕ → Block
block_at n = record { 0 = n }

abbrev pub sector_at : ℕ → Sector
sector_at n = record { 0 = n }

-- the sectors of an image by its bytes: a 1K card has 16, a 4K card 40, and any other length is no card
unfoldable pub sectors_of : ℕ → ℕ
sectors_of bytes = cond (eqb bytes 1024) 16 (cond (eqb bytes 4096) 40 0)

-- the blocks of n sectors: the first 32 are small, of four blocks; those after them are large, of sixteen
unfoldable pub blocks_in : ℕ → ℕ
blocks_in n = cond (leb n 32) (4 * n) (128 + 16 * (n - 32))

-- the blocks of an image of so many bytes
unfoldable pub blocks_of : ℕ → ℕ
blocks_of bytes = blocks_in (sectors_of bytes)

-- an image of so many bytes has the sector, has the block
unfoldable pub has_sector : ℕ → Sector → Bool
has_sector bytes s = ltb s.0 (sectors_of bytes)

unfoldable pub has_block : ℕ → Block → Bool
has_block bytes b = ltb b.0 (blocks_of bytes)

-- the small sectors end with block 127, and sector 32 begins with block 128
unfoldable pub sector_of : Block → Sector
sector_of b = cond (ltb b.0 128) (record { 0 = b.0 / 4 }) (record { 0 = 32 + (b.0 - 128) / 16 })

-- a sector ends with its trailer; a sector that no card has is given block 255
unfoldable pub trailer_of : Sector → Block
trailer_of s =
    cond (ltb s.0 32) (record { 0 = 4 * s.0 + 3 })
    (cond (ltb s.0 40) (record { 0 = 128 + 16 * (s.0 - 32) + 15 }) (record { 0 = 255 }))

-- a block is the trailer of its sector
unfoldable pub is_trailer : Block → Bool
is_trailer b = eqb (trailer_of (sector_of b)).0 b.0

-- the group of the place o in a sector whose three data groups have n blocks each: 0, 1, 2, and after them the trailer, 3
unfoldable pub group_at : ℕ → ℕ → Group
group_at n o = cond (ltb o n) First (cond (ltb o (2 * n)) Second (cond (ltb o (3 * n)) Third Trailer))

-- a small sector has one block to a group, a large one five
unfoldable pub group_of : Block → Group
group_of b = cond (ltb b.0 128) (group_at 1 (b.0 % 4)) (group_at 5 (b.0 % 16))

-- groups by number
abbrev pub group_number : Group → ℕ
group_number First = 0
group_number Second = 1
group_number Third = 2
group_number Trailer = 3
