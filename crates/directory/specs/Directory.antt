-- The MIFARE Application Directory of AN10787: how it is announced, and what it holds.
use Rattle.std.specs.Prelude.{Bool, cond, ◌&&◌, List, [], ◌∷◌, ◌++◌, ℕ, ◌+◌, ◌*◌, ◌-◌, ◌%◌, leb, eqb, length, get_or, drop, Option, Some, None}
use Rattle.layout.specs.Layout.{sectors_of, block_at}
use Rattle.memory.specs.Memory.{content_of, byte_of}
use Rattle.directory.specs.Checksum.{checksum_of}
use Rattle.directory.specs.declared.Version.{Version}
use Rattle.directory.specs.declared.Version.TheVariants.{One, Two}
use Rattle.directory.specs.declared.Part.{Part}
use Rattle.directory.specs.declared.Part.TheVariants.{First, Second}

-- what an announcing byte says of a card with so many sectors: bit 7, there is a directory; bits 1 and 0, its version. The first is for sectors up to 15, the second up to 39
unfoldable pub announced_of : ℕ → ℕ → Option Version
announced_of byte sectors =
    cond (leb 128 byte)
    (cond (eqb (byte % 4) 1 && leb 16 sectors) (Some One) (cond (eqb (byte % 4) 2 && leb 40 sectors) (Some Two) None))
    None

-- the version of an image's directory: byte 9 of sector 0's trailer announces it
unfoldable pub version_of : List ℕ → Option Version
version_of image = announced_of (byte_of image (block_at 3) 9) (sectors_of (length image))

-- the bytes of a part: two blocks of sector 0, three blocks of sector 16
unfoldable pub part_of : List ℕ → Part → List ℕ
part_of image First = content_of image (block_at 1) ++ content_of image (block_at 2)
part_of image Second = content_of image (block_at 64) ++ (content_of image (block_at 65) ++ content_of image (block_at 66))

-- a part begins with its checksum, which is over all its bytes after it
unfoldable pub right_bytes : List ℕ → Bool
right_bytes part = eqb (checksum_of (drop 1 part)) (get_or part 0 0)

unfoldable pub is_intact : List ℕ → Part → Bool
is_intact image p = right_bytes (part_of image p)

-- then comes its info byte
unfoldable pub info_of : List ℕ → Part → ℕ
info_of image p = get_or (part_of image p) 1 0

-- the numbers that some bytes are: two bytes each, the low one first
unfoldable pub numbers_of : List ℕ → List ℕ
numbers_of [] = []
numbers_of (b ∷ []) = []
numbers_of (low ∷ high ∷ bytes) = (low + 256 * high) ∷ numbers_of bytes

-- the rest of a part are its entries
unfoldable pub entries_in : List ℕ → Part → List ℕ
entries_in image p = numbers_of (drop 2 (part_of image p))

-- the entries of a version, in the directory's order
unfoldable pub entries_of : List ℕ → Version → List ℕ
entries_of image One = entries_in image First
entries_of image Two = entries_in image First ++ entries_in image Second

-- the entry at a place, counted from 1; 0 where no version has one
unfoldable pub entry_at : List ℕ → ℕ → ℕ
entry_at image place = cond (eqb place 0) 0 (get_or (entries_of image Two) (place - 1) 0)
