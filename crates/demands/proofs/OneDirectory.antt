-- One result for each public function of `directory`, on the contract that its source states.
-- Assumes nothing.
use mathlib.Core.List.{List}
use Prim.Native.Nat.{ℕ}
use base.Fml.{Lft}
use denote.Ref.{Bor}
use Rattle.directory.specs.declared.Part.{Part}
use Rattle.directory.specs.declared.Version.{Version}
use Rattle.directory.specs.declared.Refusal.{Refusal}
use Rattle.directory.proofs.Refusal.number.Reads as number-contract
use Rattle.directory.proofs.checksum.Reads as checksum-contract
use Rattle.directory.proofs.version_of.Reads as version-of-contract
use Rattle.directory.proofs.is_intact.Reads as is-intact-contract
use Rattle.directory.proofs.info_byte.Reads as info-byte-contract
use Rattle.directory.proofs.entry_at.Reads as entry-at-contract
use Rattle.directory.proofs.sector_of_place.Reads as sector-of-place-contract
use Rattle.directory.proofs.entry_count.Reads as entry-count-contract
use Rattle.directory.proofs.intact_version.Reads as intact-version-contract
use Rattle.directory.proofs.refusal_of.Reads as refusal-of-contract
use Rattle.directory.proofs.lookup.Reads as lookup-contract
use Rattle.demands.specs.One.{OneResult}
use Rattle.demands.proofs.Exact.{exact}

pub checksum : (κ : Lft) (bytes : Bor (List ℕ)) → OneResult (λ r. checksum-contract.Post (κ, tt) (bytes, tt) r (bytes, tt))
checksum κ bytes = exact

pub version_of : (κ : Lft) (image : Bor (List ℕ)) → OneResult (λ r. version-of-contract.Post (κ, tt) (image, tt) r (image, tt))
version_of κ image = exact

pub is_intact_lem : (κ : Lft) (image : Bor (List ℕ)) (part : Part) → OneResult (λ r. is-intact-contract.Post (κ, tt) (image, (part, tt)) r (image, (part, tt)))
is_intact_lem κ image part = exact

pub info_byte_lem : (κ : Lft) (image : Bor (List ℕ)) (part : Part) → OneResult (λ r. info-byte-contract.Post (κ, tt) (image, (part, tt)) r (image, (part, tt)))
info_byte_lem κ image part = exact

pub entry_at : (κ : Lft) (image : Bor (List ℕ)) (place : ℕ) → OneResult (λ r. entry-at-contract.Post (κ, tt) (image, (place, tt)) r (image, (place, tt)))
entry_at κ image place = exact

pub sector_of_place_lem : (place : ℕ) → OneResult (λ r. sector-of-place-contract.Post tt (place, tt) r (place, tt))
sector_of_place_lem place = exact

pub entry_count_lem : (version : Version) → OneResult (λ r. entry-count-contract.Post tt (version, tt) r (version, tt))
entry_count_lem version = exact

pub intact_version_lem : (κ : Lft) (image : Bor (List ℕ)) → OneResult (λ r. intact-version-contract.Post (κ, tt) (image, tt) r (image, tt))
intact_version_lem κ image = exact

pub refusal_of_lem : (κ : Lft) (image : Bor (List ℕ)) → OneResult (λ r. refusal-of-contract.Post (κ, tt) (image, tt) r (image, tt))
refusal_of_lem κ image = exact

pub lookup : (κ : Lft) (image : Bor (List ℕ)) (wanted : ℕ) → OneResult (λ r. lookup-contract.Post (κ, tt) (image, (wanted, tt)) r (image, (wanted, tt)))
lookup κ image wanted = exact

pub number : (r : Refusal) → OneResult (λ n. number-contract.Post tt (r, tt) n (r, tt))
number r = exact
