-- One result for each public function of `issue`, on the contract that its source states: what is returned, and every byte of what was lent.
-- Assumes nothing.
use mathlib.Core.Path.{◌≡◌, sym, ◌∙◌}
use mathlib.Core.List.{List}
use Prim.Native.Nat.{ℕ}
use base.Fml.{Lft}
use denote.Bor.{Bor}
use denote.Ref.{MutBor, at_last}
use Rattle.layout.specs.declared.Sector.{Sector}
use Rattle.std.specs.Prelude.{Result}
use Rattle.directory.specs.declared.Refusal.{Refusal}
use Rattle.issue.specs.declared.read.Listing.{Listing}
use Rattle.issue.specs.declared.WriteRefusal.{WriteRefusal}
use Rattle.issue.specs.declared.AccessRefusal.{AccessRefusal}
use Rattle.issue.proofs.WriteRefusal.number.Reads as write-number-contract
use Rattle.issue.proofs.AccessRefusal.number.Reads as access-number-contract
use Rattle.issue.proofs.write_directory.Reads as write-directory-contract
use Rattle.issue.proofs.read_directory.Reads as read-directory-contract
use Rattle.issue.proofs.write_access.Reads as write-access-contract
use Rattle.issue.proofs.read_access.Reads as read-access-contract
use Rattle.demands.specs.One.{OneResult}
use Rattle.demands.proofs.Exact.{exact}

module _ (κ₀ κ₁ : Lft) (image : MutBor (List ℕ)) (infos : List ℕ) (numbers : Bor (List ℕ)) where
  -- the refusal, and the image afterwards
  abbrev WriteMeets : Result (Unit {0}) WriteRefusal → List ℕ → Type 0
  WriteMeets r last = write-directory-contract.Post (κ₀, (κ₁, tt)) (image, (infos, (numbers, tt))) r (at_last image last, (infos, (numbers, tt)))

  pub write_directory_lem : (r r' : Result (Unit {0}) WriteRefusal) (last last' : List ℕ) → WriteMeets r last → WriteMeets r' last' → (r ≡ r') × (last ≡ last')
  write_directory_lem r r' last last' m n = (m.0 ∙ sym n.0, m.1 ∙ sym n.1)

module _ (κ₀ κ₁ : Lft) (image : Bor (List ℕ)) (numbers : MutBor (List ℕ)) where
  -- what is told, and the list afterwards
  abbrev ReadMeets : Result Listing Refusal → List ℕ → Type 0
  ReadMeets r list = read-directory-contract.Post (κ₀, (κ₁, tt)) (image, (numbers, tt)) r (image, (at_last numbers list, tt))

  pub read_directory_lem : (r r' : Result Listing Refusal) (list list' : List ℕ) → ReadMeets r list → ReadMeets r' list' → (r ≡ r') × (list ≡ list')
  read_directory_lem r r' list list' m n = (m.0 ∙ sym n.0, m.1 ∙ sym n.1)

module _ (κ : Lft) (image : MutBor (List ℕ)) (s : Sector) (bits : List ℕ) where
  -- the refusal, and the image afterwards
  abbrev AccessMeets : Result (Unit {0}) AccessRefusal → List ℕ → Type 0
  AccessMeets r last = write-access-contract.Post (κ, tt) (image, (s, (bits, tt))) r (at_last image last, (s, (bits, tt)))

  pub write_access_lem : (r r' : Result (Unit {0}) AccessRefusal) (last last' : List ℕ) → AccessMeets r last → AccessMeets r' last' → (r ≡ r') × (last ≡ last')
  write_access_lem r r' last last' m n = (m.0 ∙ sym n.0, m.1 ∙ sym n.1)

pub read_access_lem : (κ : Lft) (image : Bor (List ℕ)) (s : Sector) → OneResult (λ r. read-access-contract.Post (κ, tt) (image, (s, tt)) r (image, (s, tt)))
read_access_lem κ image s = exact

pub write_number : (r : WriteRefusal) → OneResult (λ n. write-number-contract.Post tt (r, tt) n (r, tt))
write_number r = exact

pub access_number : (r : AccessRefusal) → OneResult (λ n. access-number-contract.Post tt (r, tt) n (r, tt))
access_number r = exact
