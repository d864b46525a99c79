-- What C sees of the desk's tools: an answer as one number of four bytes, and a sector by any number.
use Rattle.std.specs.Prelude.{◌≡◌, cond, List, [], ◌∷◌, ℕ, ◌+◌, ◌*◌, ltb, replicate, Option, Some, None, Result, Ok, Err}
use Rattle.std.specs.Result.{result_unwrap_or}
use Rattle.layout.specs.Layout.{sector_at, sectors_of, has_sector}
use Rattle.layout.specs.declared.Sector.{Sector}
use Rattle.directory.specs.Lookup.{refusal_number}
use Rattle.directory.specs.declared.Looked.{Looked}
use Rattle.directory.specs.declared.Refusal.{Refusal}
use Rattle.directory.specs.declared.Version.{Version}
use Rattle.directory.specs.declared.Version.TheVariants.{One, Two}
use Rattle.issue.specs.declared.read.Listing.{Listing}
use Rattle.issue.specs.declared.AccessRefusal.{AccessRefusal}

-- the number of a call: that of its refusal, and 0 where it is accepted
abbrev pub number_of : {T R : Type 0} → (R → ℕ) → Result T R → ℕ
number_of number (Ok x) = 0
number_of number (Err r) = number r

-- 1 where there is a sector
abbrev pub flag_of : Option Sector → ℕ
flag_of (Some s) = 1
flag_of None = 0

-- the sector, and 0 where there is none
abbrev pub sector_in : Option Sector → ℕ
sector_in (Some s) = s.0
sector_in None = 0

-- byte 1 is the flag, byte 2 the sector, byte 3 the count
abbrev pub packed_looked : Looked → ℕ
packed_looked a = 256 * flag_of a.found + 65536 * sector_in a.found + 16777216 * a.count

-- and byte 0 the number of a lookup that is refused, where all others are 0
abbrev pub packed_lookup : Result Looked Refusal → ℕ
packed_lookup (Ok a) = packed_looked a
packed_lookup (Err r) = refusal_number r

-- a version as a number
abbrev pub version_code : Version → ℕ
version_code One = 1
version_code Two = 2

-- a directory that was read: byte 1 is the version; or byte 0 is the number of the refusal
abbrev pub packed_listing : Result Listing Refusal → ℕ
packed_listing (Ok a) = 256 * version_code a.version
packed_listing (Err r) = refusal_number r

-- and its info bytes, 0 where it is refused
abbrev pub infos_in : Result Listing Refusal → List ℕ
infos_in (Ok a) = a.infos
infos_in (Err r) = 0 ∷ 0 ∷ []

-- the bits that were read, 0 where the call is refused
abbrev pub bits_in : Result (List ℕ) AccessRefusal → List ℕ
bits_in r = result_unwrap_or r (replicate 4 0)

-- the sector that a number names; from 256 on it is 255, which no card has
unfoldable pub sector_named : ℕ → Sector
sector_named n = cond (ltb n 256) (sector_at n) (sector_at 255)

-- so an image has the sector that a number names where the number is below its sectors, and only there
abbrev pub NamesItsSector : Type 0
NamesItsSector = (bytes n : ℕ) → has_sector bytes (sector_named n) ≡ ltb n (sectors_of bytes)
