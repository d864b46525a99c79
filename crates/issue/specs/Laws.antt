-- What can be relied on of what the desk writes and reads back.
use Rattle.std.specs.Prelude.{◌≡◌, List, [], ◌∷◌, ◌++◌, ℕ, ◌*◌, ◌-◌, ◌/◌, ◌%◌, ◌<◌, ◌≤◌, length, get_or, take, replicate, Some, None, Result, Ok, Err}
use Rattle.layout.specs.Layout.{block_at, sector_at, trailer_of, group_number}
use Rattle.layout.specs.declared.Block.{Block}
use Rattle.layout.specs.declared.Sector.{Sector}
use Rattle.layout.specs.declared.Group.{Group}
use Rattle.memory.specs.Memory.{content_of, byte_of}
use Rattle.access.specs.Bits.{access_bytes_of, bits_of}
use Rattle.directory.specs.Directory.{numbers_of}
use Rattle.directory.specs.Lookup.{entry_count, sector_of_place, lookup_of}
use Rattle.directory.specs.declared.Version.{Version}
use Rattle.directory.specs.declared.Version.TheVariants.{One, Two}
use Rattle.directory.specs.declared.Refusal.{Refusal}
use Rattle.directory.specs.declared.Looked.{Looked}
use Rattle.issue.specs.Write.{version_to_write, directory_bytes, directory_blocks, announcing, written_image}
use Rattle.issue.specs.Read.{read_of, read_list}
use Rattle.issue.specs.Groups.{access_refusal, access_for, access_image, read_access}
use Rattle.issue.specs.declared.read.Listing.{Listing}
use Rattle.issue.specs.declared.WriteRefusal.{WriteRefusal}
use Rattle.issue.specs.declared.WriteRefusal.TheVariants.{WrongCount}
use Rattle.issue.specs.declared.WriteRefusal.TheVariants as write
use Rattle.issue.specs.declared.AccessRefusal.TheVariants.{NoSector, NotBits}
use Rattle.issue.specs.declared.AccessRefusal.TheVariants as access

-- the numbers of a list are bytes
abbrev pub Bytes : List ℕ → Type 0
Bytes l = (i : ℕ) → get_or l i 0 < 256

-- of two info bytes those that a version has, 0 for the other
abbrev pub infos_for : List ℕ → Version → List ℕ
infos_for infos One = get_or infos 0 0 ∷ 0 ∷ []
infos_for infos Two = get_or infos 0 0 ∷ get_or infos 1 0 ∷ []

-- what was written reads back: its version, its info bytes, and the list that went in, with zeros behind it
abbrev pub ReadsBack : Type 0
ReadsBack =
    (image infos numbers : List ℕ) (v : Version) → Bytes numbers → version_to_write (length image) (length numbers) ≡ Ok v
    → (read_of (written_image image infos numbers) ≡ Ok (record { version = v; infos = infos_for infos v }))
    × (read_list (written_image image infos numbers) ≡ numbers ++ replicate (76 - length numbers) 0)

-- a place, counted from 1, has the wanted number in a list
pub record Held (list : List ℕ) (wanted place : ℕ) : Type 0 where
  pub from : 0 < place
  pub to : place ≤ length list
  pub held : get_or list (place - 1) 0 ≡ wanted

-- the answer for a list: the sector of a place that has the number, and no place that has it has a lower sector; or no place has it
pub data Lowest (list : List ℕ) (wanted : ℕ) (a : Result Looked Refusal) : Type 0 where
  lowest : (place : ℕ) → Held list wanted place
      → ((other : ℕ) → Held list wanted other → (sector_of_place place).0 ≤ (sector_of_place other).0)
      → a ≡ Ok (record { found = Some (sector_of_place place); count = place }) → Lowest list wanted a
  nowhere : ((other : ℕ) → Held list wanted other → ⊥)
      → a ≡ Ok (record { found = None; count = length list }) → Lowest list wanted a

-- the lookup over what was written gives that answer for the list that went in
abbrev pub FindsLowest : Type 0
FindsLowest =
    (image infos numbers : List ℕ) (v : Version) (wanted : ℕ) → version_to_write (length image) (length numbers) ≡ Ok v
    → Lowest (numbers_of numbers) wanted (lookup_of (written_image image infos numbers) wanted)

-- the bytes of the numbers that were read, without the zeros behind them
abbrev pub numbers_read : List ℕ → Listing → List ℕ
numbers_read image told = take (2 * entry_count told.version) (read_list image)

-- a directory that is read, and written again with its info bytes, is not refused and changes no byte of the image
abbrev pub SameAgain : Type 0
SameAgain =
    (image : List ℕ) (told : Listing) → Bytes image → read_of image ≡ Ok told
    → (version_to_write (length image) (length (numbers_read image told)) ≡ Ok told.version)
    × (written_image image told.infos (numbers_read image told) ≡ image)

-- a block is not among some
abbrev pub NotAmong : ℕ → List ℕ → Type 0
NotAmong j [] = Unit {0}
NotAmong j (n ∷ ns) = (n ≡ j → ⊥) × NotAmong j ns

-- a block that is neither of the version's directory nor sector 0's trailer stays as it is: so does sector 16 under version 1
abbrev pub OthersStay : Type 0
OthersStay =
    (image infos numbers : List ℕ) (j : Block)
    → ((v : Version) → version_to_write (length image) (length numbers) ≡ Ok v → NotAmong j.0 (3 ∷ directory_blocks v))
    → content_of (written_image image infos numbers) j ≡ content_of image j

-- of sector 0's trailer every byte but byte 9 stays
abbrev pub KeysStay : Type 0
KeysStay =
    (image infos numbers : List ℕ) (i : ℕ) → (i ≡ 9 → ⊥)
    → byte_of (written_image image infos numbers) (block_at 3) i ≡ byte_of image (block_at 3) i

-- and of byte 9 the bits 6 to 2
abbrev pub BitsStay : Type 0
BitsStay =
    (image infos numbers : List ℕ)
    → byte_of (written_image image infos numbers) (block_at 3) 9 / 4 % 32 ≡ byte_of image (block_at 3) 9 / 4 % 32

-- a call that is refused changes nothing, and no call changes the length
abbrev pub RefusedStays : Type 0
RefusedStays =
    (image infos numbers : List ℕ) (r : WriteRefusal) → version_to_write (length image) (length numbers) ≡ Err r
    → written_image image infos numbers ≡ image

abbrev pub LengthStays : Type 0
LengthStays = (image infos numbers : List ℕ) → length (written_image image infos numbers) ≡ length image

-- the bits that were written are those that each group then has, so the sector is not blocked
abbrev pub BitsBack : Type 0
BitsBack =
    (image : List ℕ) (s : Sector) (bits : List ℕ) (g : Group) → access_refusal (length image) s bits ≡ Ok tt
    → bits_of (access_bytes_of (content_of (access_image image s bits) (trailer_of s))) g ≡ Some (get_or bits (group_number g) 0)

-- and reading the sector gives them back
abbrev pub AccessBack : Type 0
AccessBack =
    (image : List ℕ) (s : Sector) (bits : List ℕ) → length bits ≡ 4 → access_refusal (length image) s bits ≡ Ok tt
    → read_access (access_image image s bits) s ≡ Ok bits

-- every block but the sector's trailer stays as it is
abbrev pub SectorsStay : Type 0
SectorsStay =
    (image : List ℕ) (s : Sector) (bits : List ℕ) (j : Block) → ((trailer_of s).0 ≡ j.0 → ⊥)
    → content_of (access_image image s bits) j ≡ content_of image j

-- and of the trailer every byte but 6, 7 and 8: both keys, and byte 9
abbrev pub TrailerStays : Type 0
TrailerStays =
    (image : List ℕ) (s : Sector) (bits : List ℕ) (i : ℕ) → (i ≡ 6 → ⊥) → (i ≡ 7 → ⊥) → (i ≡ 8 → ⊥)
    → byte_of (access_image image s bits) (trailer_of s) i ≡ byte_of image (trailer_of s) i

-- the versions and refusals of the two calls, on a 1K card and a 4K card: 30 bytes and 76, one byte less, and a length that is no card's
abbrev pub ByLength : Type 0
ByLength =
    (version_to_write 1024 30 ≡ Ok One)
    × (version_to_write 4096 30 ≡ Ok One)
    × (version_to_write 4096 76 ≡ Ok Two)
    × (version_to_write 1024 76 ≡ Err WrongCount)
    × (version_to_write 4096 75 ≡ Err WrongCount)
    × (version_to_write 1023 30 ≡ Err write.NoCard)

-- the last sector and the one after it, and bits above 7; a missing sector comes before them
abbrev pub BySector : Type 0
BySector =
    (access_refusal 1024 (sector_at 15) (7 ∷ 7 ∷ 7 ∷ 7 ∷ []) ≡ Ok tt)
    × (access_refusal 1024 (sector_at 16) (7 ∷ 7 ∷ 7 ∷ 8 ∷ []) ≡ Err NoSector)
    × (access_refusal 4096 (sector_at 16) (7 ∷ 7 ∷ 7 ∷ 8 ∷ []) ≡ Err NotBits)
    × (access_refusal 1023 (sector_at 16) (7 ∷ 7 ∷ 7 ∷ 8 ∷ []) ≡ Err access.NoCard)

-- examples that were computed elsewhere: fifteen numbers, 4801h to 480Fh, with the info byte 0
abbrev pub FifteenNumbers : Type 0
FifteenNumbers =
    directory_bytes (0 ∷ 0 ∷ [])
    (0x01 ∷ 0x48 ∷ 0x02 ∷ 0x48 ∷ 0x03 ∷ 0x48 ∷ 0x04 ∷ 0x48 ∷ 0x05 ∷ 0x48 ∷ 0x06 ∷ 0x48 ∷ 0x07 ∷ 0x48 ∷ 0x08 ∷ 0x48
    ∷ 0x09 ∷ 0x48 ∷ 0x0A ∷ 0x48 ∷ 0x0B ∷ 0x48 ∷ 0x0C ∷ 0x48 ∷ 0x0D ∷ 0x48 ∷ 0x0E ∷ 0x48 ∷ 0x0F ∷ 0x48 ∷ [])
    One
    ≡ 0xA3 ∷ 0x00 ∷ 0x01 ∷ 0x48 ∷ 0x02 ∷ 0x48 ∷ 0x03 ∷ 0x48 ∷ 0x04 ∷ 0x48 ∷ 0x05 ∷ 0x48 ∷ 0x06 ∷ 0x48 ∷ 0x07 ∷ 0x48
    ∷ 0x08 ∷ 0x48 ∷ 0x09 ∷ 0x48 ∷ 0x0A ∷ 0x48 ∷ 0x0B ∷ 0x48 ∷ 0x0C ∷ 0x48 ∷ 0x0D ∷ 0x48 ∷ 0x0E ∷ 0x48 ∷ 0x0F ∷ 0x48 ∷ []

-- a card is delivered with 69h in the announcing byte: E9h then announces version 1, and EAh version 2
abbrev pub FromDelivery : Type 0
FromDelivery = (announcing 0x69 1 ≡ 0xE9) × (announcing 0x69 2 ≡ 0xEA)

-- on a byte of zeros 81h and 82h do, since bit 6 is not set unasked
abbrev pub FromZero : Type 0
FromZero = (announcing 0x00 1 ≡ 0x81) × (announcing 0x00 2 ≡ 0x82)

-- the access bytes that a card is delivered with are FF 07 80: the bits 0 for the data, and 1 for the trailer
abbrev pub DeliveryBits : Type 0
DeliveryBits = access_for (0 ∷ 0 ∷ 0 ∷ 1 ∷ []) ≡ record { 0 = 0xFF; 1 = 0x07; 2 = 0x80 }
