-- A whole directory as the desk reads it back.
use Rattle.std.specs.Prelude.{List, [], ◌∷◌, ◌++◌, ℕ, ◌*◌, ◌-◌, ◌/◌, ◌%◌, length, replicate, Result, Ok, Err}
use Rattle.directory.specs.Directory.{info_of, entries_of}
use Rattle.directory.specs.Lookup.{intact_version}
use Rattle.directory.specs.declared.Version.{Version}
use Rattle.directory.specs.declared.Version.TheVariants.{One, Two}
use Rattle.directory.specs.declared.Refusal.{Refusal}
use Rattle.directory.specs.declared.Part.TheVariants.{First, Second}
use Rattle.issue.specs.declared.read.Listing.{Listing}

-- the info bytes of a version, 0 where it has none
unfoldable pub infos_of : List ℕ → Version → List ℕ
infos_of image One = info_of image First ∷ 0 ∷ []
infos_of image Two = info_of image First ∷ info_of image Second ∷ []

-- numbers as bytes, two each, the low one first
unfoldable pub bytes_of : List ℕ → List ℕ
bytes_of [] = []
bytes_of (n ∷ ns) = (n % 256) ∷ (n / 256) ∷ bytes_of ns

-- a list has 76 bytes: the numbers, and zeros behind them
unfoldable pub list_of : List ℕ → List ℕ
list_of numbers = bytes_of numbers ++ replicate (76 - 2 * length numbers) 0

-- the version and the info bytes; or the refusal of the version
unfoldable pub listed : List ℕ → Result Version Refusal → Result Listing Refusal
listed image (Ok v) = Ok (record { version = v; infos = infos_of image v })
listed image (Err r) = Err r

unfoldable pub read_of : List ℕ → Result Listing Refusal
read_of image = listed image (intact_version image)

-- and the list: no number of a directory that is refused
unfoldable pub entries_read : List ℕ → Result Version Refusal → List ℕ
entries_read image (Ok v) = entries_of image v
entries_read image (Err r) = []

unfoldable pub read_list : List ℕ → List ℕ
read_list image = list_of (entries_read image (intact_version image))
