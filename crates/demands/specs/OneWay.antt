-- A ride card cannot gain rides: in a sector whose data blocks only count down, the largest value never rises.
use Rattle.std.specs.Prelude.{◌≡◌, true, false, List, ℕ, eqb, ℤ, None, Some}
use Rattle.std.specs.Int.Signed.{le_z}
use Rattle.layout.specs.Layout.{sector_of, trailer_of, is_trailer}
use Rattle.layout.specs.declared.Block.{Block}
use Rattle.layout.specs.declared.Sector.{Sector}
use Rattle.layout.specs.declared.Group.TheVariants.{First, Second, Third}
use Rattle.memory.specs.Memory.{content_of}
use Rattle.access.specs.Bits.{access_bytes_of, well_formed, group_bits}
use Rattle.access.specs.declared.bits.AccessBytes.{AccessBytes}
use Rattle.value.specs.Whole.{signed}
use Rattle.value.specs.Block.{decode_of}
use Rattle.edition.specs.declared.CardRecord.{CardRecord}
use Rattle.runs.specs.Run.{begin, Sent, run_of}
use Rattle.demands.specs.Demand3.{NotWritten}

-- the access bytes of a sector
abbrev pub access_in : List ℕ → Sector → AccessBytes
access_in image t = access_bytes_of (content_of image (trailer_of t))

-- the sector is not blocked, and its three data groups have the bits 001
pub record RideSector (image : List ℕ) (t : Sector) : Type 0 where
  pub opened : well_formed (access_in image t) ≡ true
  pub first : group_bits (access_in image t) First ≡ 0b001
  pub second : group_bits (access_in image t) Second ≡ 0b001
  pub third : group_bits (access_in image t) Third ≡ 0b001

-- a data block of the sector, block 0 left aside
pub record DataBlock (t : Sector) (b : Block) : Type 0 where
  pub inside : sector_of b ≡ t
  pub data_block : is_trailer b ≡ false
  pub not_zero : eqb b.0 0 ≡ false

-- no value block of the sector has a value above this
abbrev pub AtMost : ℤ → List ℕ → Sector → Type 0
AtMost top image t = (b : Block) → DataBlock t b → (v a : ℕ) → decode_of (content_of image b) ≡ Some (v, a) → le_z (signed v) top ≡ true

-- on a card of either edition, what no value exceeds at the start, none exceeds after any run from a fresh session without an accepted Write to the trailer
abbrev pub OneWay : Type 0
OneWay =
    (k : CardRecord) (image : List ℕ) (t : Sector) (top : ℤ) → RideSector image t → AtMost top image t
    → (events : List Sent) → NotWritten (trailer_of t) (begin k image) events → AtMost top (run_of (begin k image) events).image t

-- and a sector without a value block never gets one
abbrev pub NoneEver : Type 0
NoneEver =
    (k : CardRecord) (image : List ℕ) (t : Sector) → RideSector image t → ((b : Block) → DataBlock t b → decode_of (content_of image b) ≡ None)
    → (events : List Sent) → NotWritten (trailer_of t) (begin k image) events
    → (b : Block) → DataBlock t b → decode_of (content_of (run_of (begin k image) events).image b) ≡ None
