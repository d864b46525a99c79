-- The ways out of the lookup, in the words of its tests.
-- Assumes nothing.
use mathlib.Core.Path.{◌≡◌}
use mathlib.Core.List.{List}
use Prim.Native.Nat.{ℕ}
use Rattle.std.specs.Prelude.{Some, None, Ok, Err}
use Rattle.directory.specs.Directory.{entries_of}
use Rattle.directory.specs.Lookup.{entry_count, sector_of_place, place_from, intact_version, looked_of, searched, looked_up, lookup_of}
use Rattle.directory.specs.declared.Version.{Version}
use Rattle.directory.specs.declared.Refusal.{Refusal}
use Rattle.directory.proofs.Every.{counted}

module _ (image : List ℕ) (w : ℕ) where
  pub refused : (r : Refusal) → intact_version image ≡ Err r → Err r ≡ lookup_of image w
  unfolding lookup_of looked_up
  refused r e = rw e

  module _ (v : Version) (e : intact_version image ≡ Ok v) where
    pub matched : (place : ℕ) → Some place ≡ place_from 1 w (entries_of image v) → Ok (record { found = Some (sector_of_place place); count = place }) ≡ lookup_of image w
    unfolding lookup_of looked_up searched looked_of
    matched place f = rw (e, ← f)

    pub unmatched : None ≡ place_from 1 w (entries_of image v) → Ok (record { found = None; count = entry_count v }) ≡ lookup_of image w
    unfolding lookup_of looked_up searched looked_of
    unmatched f = rw (e, ← f, counted image v)
