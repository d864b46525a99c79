-- Which sector is an application's: the lookup, its refusals, and the entries it looked at.
use Rattle.std.specs.Prelude.{cond, ◌&&◌, Bool, List, [], ◌∷◌, ℕ, suc, ◌+◌, leb, eqb, length, Option, Some, None, Result, Ok, Err}
use Rattle.std.specs.Result.{result_and}
use Rattle.layout.specs.Layout.{sectors_of}
use Rattle.layout.specs.declared.Sector.{Sector}
use Rattle.directory.specs.Directory.{version_of, is_intact, entries_of}
use Rattle.directory.specs.declared.Version.{Version}
use Rattle.directory.specs.declared.Version.TheVariants.{One, Two}
use Rattle.directory.specs.declared.Part.TheVariants.{First, Second}
use Rattle.directory.specs.declared.Refusal.{Refusal}
use Rattle.directory.specs.declared.Refusal.TheVariants.{NoCard, NoDirectory, WrongChecksum}
use Rattle.directory.specs.declared.Looked.{Looked}

-- how many entries a version has
abbrev pub entry_count : Version → ℕ
entry_count One = 15
entry_count Two = 38

-- the place of the first entry that is the wanted number, where the first of all has this place
unfoldable pub place_from : ℕ → ℕ → List ℕ → Option ℕ
place_from place wanted [] = None
place_from place wanted (e ∷ es) = cond (eqb e wanted) (Some place) (place_from (suc place) wanted es)

-- the sector of a place: 1 to 15, then 17 to 39, since sector 16 has no entry; sector 0 for a place that no directory has
unfoldable pub sector_of_place : ℕ → Sector
sector_of_place place =
    cond (leb place 15) (record { 0 = place })
    (cond (leb place 38) (record { 0 = place + 1 }) (record { 0 = 0 }))

-- a refusal's number
abbrev pub refusal_number : Refusal → ℕ
refusal_number NoCard = 11
refusal_number NoDirectory = 15
refusal_number WrongChecksum = 16

-- the checksums of a version are right
unfoldable pub is_right : List ℕ → Version → Bool
is_right image One = is_intact image First
is_right image Two = is_intact image First && is_intact image Second

-- the version that is read, or why none is: none is announced, or a checksum of it is wrong
unfoldable pub judged : List ℕ → Option Version → Result Version Refusal
judged image None = Err NoDirectory
judged image (Some v) = cond (is_right image v) (Ok v) (Err WrongChecksum)

-- the version of an image's directory, or why it is not read: first, no card has this size
unfoldable pub intact_version : List ℕ → Result Version Refusal
intact_version image = cond (eqb (sectors_of (length image)) 0) (Err NoCard) (judged image (version_of image))

-- why an image's directory is not read, if it is not
unfoldable pub refusal_of : List ℕ → Result (Unit {0}) Refusal
refusal_of image = result_and (intact_version image) (Ok tt)

-- the answer for the place of the match among so many entries; without a match all were looked at
unfoldable pub looked_of : ℕ → Option ℕ → Looked
looked_of entries None = record { found = None; count = entries }
looked_of entries (Some place) = record { found = Some (sector_of_place place); count = place }

-- the lookup of a number among some entries
unfoldable pub searched : List ℕ → ℕ → Looked
searched es wanted = looked_of (length es) (place_from 1 wanted es)

-- and in an image: a refusal gives no sector, and looked at no entry
unfoldable pub looked_up : List ℕ → ℕ → Result Version Refusal → Result Looked Refusal
looked_up image wanted (Ok v) = Ok (searched (entries_of image v) wanted)
looked_up image wanted (Err r) = Err r

unfoldable pub lookup_of : List ℕ → ℕ → Result Looked Refusal
lookup_of image wanted = looked_up image wanted (intact_version image)
