-- The directory as the desk writes it: which version, the bytes of its blocks, and the byte that announces it.
use Rattle.std.specs.Prelude.{cond, ◌&&◌, List, [], ◌∷◌, ◌++◌, ℕ, ◌+◌, ◌*◌, ◌/◌, ◌%◌, eqb, leb, ltb, length, get_or, set, take, drop, zero, suc, Option, Some, None, ok_or, Result, Ok, Err}
use Rattle.std.specs.Result.{result_and}
use Rattle.layout.specs.Layout.{sectors_of, block_at}
use Rattle.memory.specs.Memory.{sixteen_of, content_of, byte_of, store_of}
use Rattle.directory.specs.Checksum.{checksum_of}
use Rattle.directory.specs.declared.Version.{Version}
use Rattle.directory.specs.declared.Version.TheVariants.{One, Two}
use Rattle.issue.specs.declared.WriteRefusal.{WriteRefusal}
use Rattle.issue.specs.declared.WriteRefusal.TheVariants.{NoCard, TooSmall, WrongCount}

-- the version by a card's sectors and the bytes of the numbers, two each: 15 numbers are version 1, 38 are version 2, which needs forty sectors
unfoldable pub version_for : ℕ → ℕ → Option Version
version_for sectors bytes =
    cond (eqb bytes 30 && leb 16 sectors) (Some One) (cond (eqb bytes 76 && leb 40 sectors) (Some Two) None)

-- a refusal's number
abbrev pub write_number : WriteRefusal → ℕ
write_number NoCard = 11
write_number TooSmall = 15
write_number WrongCount = 27

-- the version that is written; or the refusal: no card has this size; then a small card, of fewer than sixteen sectors, has no directory; then the numbers are for no version
unfoldable pub version_to_write : ℕ → ℕ → Result Version WriteRefusal
version_to_write bytes numbers =
    cond (eqb (sectors_of bytes) 0) (Err NoCard)
    (cond (ltb (sectors_of bytes) 16) (Err TooSmall) (ok_or (version_for (sectors_of bytes) numbers) WrongCount))

-- the refusal of the call
abbrev pub write_refusal : ℕ → ℕ → Result (Unit {0}) WriteRefusal
write_refusal bytes numbers = result_and (version_to_write bytes numbers) (Ok tt)

-- a part in full: its checksum, its info byte, its numbers; the checksum is over all that comes after it
unfoldable pub part_bytes : ℕ → List ℕ → List ℕ
part_bytes info numbers = checksum_of (info ∷ numbers) ∷ info ∷ numbers

-- all bytes of a directory: one part, or the first fifteen numbers in one and the others in a second, each with an info byte of its own
unfoldable pub directory_bytes : List ℕ → List ℕ → Version → List ℕ
directory_bytes infos numbers One = part_bytes (get_or infos 0 0) numbers
directory_bytes infos numbers Two =
    part_bytes (get_or infos 0 0) (take 30 numbers) ++ part_bytes (get_or infos 1 0) (drop 30 numbers)

-- and the blocks that they fill: two of sector 0, and for version 2 three of sector 16
unfoldable pub directory_blocks : Version → List ℕ
directory_blocks One = 1 ∷ 2 ∷ []
directory_blocks Two = 1 ∷ 2 ∷ 64 ∷ 65 ∷ 66 ∷ []

-- the image with some bytes in some blocks, sixteen to a block
unfoldable pub filled : List ℕ → List ℕ → List ℕ → List ℕ
filled image [] bytes = image
filled image (n ∷ ns) bytes = filled (store_of image (block_at n) (sixteen_of bytes)) ns (drop 16 bytes)

-- some blocks, from one on
abbrev pub blocks_on : ℕ → ℕ → List ℕ
blocks_on first zero = []
blocks_on first (suc n) = first ∷ blocks_on (first + 1) n

-- bits 1 and 0 of a version
abbrev pub digit_of : Version → ℕ
digit_of One = 1
digit_of Two = 2

-- the announcing byte: bit 7 is set, bits 1 and 0 are the version, and bits 6 to 2 stay
unfoldable pub announcing : ℕ → ℕ → ℕ
announcing byte version = 128 + byte % 128 / 4 * 4 + version

-- the image with byte 9 of sector 0's trailer announcing a version
unfoldable pub announced : List ℕ → ℕ → List ℕ
announced image version =
    store_of image (block_at 3) (set (content_of image (block_at 3)) 9 (announcing (byte_of image (block_at 3) 9) version))

-- the image with the directory of a version
unfoldable pub written_as : List ℕ → List ℕ → List ℕ → Version → List ℕ
written_as image infos numbers v = announced (filled image (directory_blocks v) (directory_bytes infos numbers v)) (digit_of v)

-- the image after the call: as it was where the call is refused
unfoldable pub written : List ℕ → List ℕ → List ℕ → Result Version WriteRefusal → List ℕ
written image infos numbers (Ok v) = written_as image infos numbers v
written image infos numbers (Err r) = image

unfoldable pub written_image : List ℕ → List ℕ → List ℕ → List ℕ
written_image image infos numbers = written image infos numbers (version_to_write (length image) (length numbers))
