-- The lookup's answer is the one from reading every entry.
use Rattle.std.specs.Prelude.{◌≡◌, List, ℕ, ◌≤◌, ◌<◌, length, get_or, Some, None, Result, Ok, Err}
use Rattle.directory.specs.Directory.{entries_of, entry_at}
use Rattle.directory.specs.Lookup.{sector_of_place, intact_version, lookup_of}
use Rattle.directory.specs.declared.Version.{Version}
use Rattle.directory.specs.declared.Refusal.{Refusal}
use Rattle.directory.specs.declared.Looked.{Looked}

-- the entry at a place of an image's directory of a version is the wanted number
pub record HeldAt (image : List ℕ) (v : Version) (wanted place : ℕ) : Type 0 where
  pub from : 0 < place
  pub to : place ≤ length (entries_of image v)
  pub held : entry_at image place ≡ wanted

-- the answer of somebody who has read every entry: a place that holds the number, and none that does comes before it or has a lower sector; or no place at all
pub data ReadAll (image : List ℕ) (v : Version) (wanted : ℕ) (a : Result Looked Refusal) : Type 0 where
  lowest : (place : ℕ) → HeldAt image v wanted place
      → ((other : ℕ) → HeldAt image v wanted other → (place ≤ other) × ((sector_of_place place).0 ≤ (sector_of_place other).0))
      → a ≡ Ok (record { found = Some (sector_of_place place); count = place }) → ReadAll image v wanted a
  nowhere : ((other : ℕ) → HeldAt image v wanted other → ⊥)
      → a ≡ Ok (record { found = None; count = length (entries_of image v) }) → ReadAll image v wanted a

-- a lookup that is not refused gives that answer
abbrev pub EveryEntry : Type 0
EveryEntry =
    (image : List ℕ) (v : Version) (wanted : ℕ) → intact_version image ≡ Ok v → ReadAll image v wanted (lookup_of image wanted)

-- and one that is refused gives no sector and looked at nothing
abbrev pub NoEntry : Type 0
NoEntry = (image : List ℕ) (r : Refusal) (wanted : ℕ) → intact_version image ≡ Err r → lookup_of image wanted ≡ Err r

-- a number above FFFFh is held nowhere: an entry has two bytes
abbrev pub TooLarge : Type 0
TooLarge =
    (image : List ℕ) (v : Version) (wanted : ℕ) → ((i : ℕ) → get_or image i 0 < 256) → intact_version image ≡ Ok v → 65535 < wanted
    → lookup_of image wanted ≡ Ok (record { found = None; count = length (entries_of image v) })
