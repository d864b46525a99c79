-- One result for each exported function of `desk`, on the contract that its source states.
-- Assumes nothing.
use mathlib.Core.Path.{◌≡◌, sym, ◌∙◌}
use mathlib.Core.List.{List}
use Prim.Native.Nat.{ℕ}
use base.Fml.{Lft}
use denote.Bor.{Bor}
use denote.Ref.{MutBor, at_last}
use Rattle.desk.proofs.tirlwheel_lookup.Reads as lookup-contract
use Rattle.desk.proofs.tirlwheel_mend.Reads as mend-contract
use Rattle.desk.proofs.tirlwheel_write_directory.Reads as write-directory-contract
use Rattle.desk.proofs.tirlwheel_read_directory.Reads as read-directory-contract
use Rattle.desk.proofs.tirlwheel_write_access.Reads as write-access-contract
use Rattle.desk.proofs.tirlwheel_read_access.Reads as read-access-contract
use Rattle.desk.proofs.tirlwheel_open.Reads as open-contract
use Rattle.demands.specs.One.{OneResult}
use Rattle.demands.proofs.Exact.{exact}

pub tirlwheel_lookup_lem : (κ : Lft) (image : Bor (List ℕ)) (application : ℕ)
    → OneResult (λ r. lookup-contract.Post (κ, tt) (image, (application, tt)) r (image, (application, tt)))
tirlwheel_lookup_lem κ image application = exact

module _ (κ₀ κ₁ κ₂ : Lft) (image : MutBor (List ℕ)) (names : Bor (List ℕ)) (report : MutBor (List ℕ)) where
  -- the number, and the image and the report afterwards
  abbrev MendMeets : ℕ → List ℕ → List ℕ → Type 0
  MendMeets r last told =
      mend-contract.Post (κ₀, (κ₁, (κ₂, tt))) (image, (names, (report, tt))) r (at_last image last, (names, (at_last report told, tt)))

  pub tirlwheel_mend_lem : (r r' : ℕ) (last last' told told' : List ℕ) → MendMeets r last told → MendMeets r' last' told' → (r ≡ r') × (last ≡ last') × (told ≡ told')
  tirlwheel_mend_lem r r' last last' told told' m n = (m.0 ∙ sym n.0, m.1.0 ∙ sym n.1.0, m.1.1 ∙ sym n.1.1)

module _ (κ₀ κ₁ κ₂ : Lft) (image : MutBor (List ℕ)) (infos numbers : Bor (List ℕ)) where
  -- the number, and the image afterwards
  abbrev WriteMeets : ℕ → List ℕ → Type 0
  WriteMeets r last = write-directory-contract.Post (κ₀, (κ₁, (κ₂, tt))) (image, (infos, (numbers, tt))) r (at_last image last, (infos, (numbers, tt)))

  pub tirlwheel_write_directory_lem : (r r' : ℕ) (last last' : List ℕ) → WriteMeets r last → WriteMeets r' last' → (r ≡ r') × (last ≡ last')
  tirlwheel_write_directory_lem r r' last last' m n = (m.0 ∙ sym n.0, m.1 ∙ sym n.1)

module _ (κ₀ κ₁ κ₂ : Lft) (image : Bor (List ℕ)) (infos numbers : MutBor (List ℕ)) where
  -- number and version, and the info bytes and the list afterwards
  abbrev ReadMeets : ℕ → List ℕ → List ℕ → Type 0
  ReadMeets r told list =
      read-directory-contract.Post (κ₀, (κ₁, (κ₂, tt))) (image, (infos, (numbers, tt))) r (image, (at_last infos told, (at_last numbers list, tt)))

  pub tirlwheel_read_directory_lem : (r r' : ℕ) (told told' list list' : List ℕ) → ReadMeets r told list → ReadMeets r' told' list' → (r ≡ r') × (told ≡ told') × (list ≡ list')
  tirlwheel_read_directory_lem r r' told told' list list' m n = (m.0 ∙ sym n.0, m.1.0 ∙ sym n.1.0, m.1.1 ∙ sym n.1.1)

module _ (κ₀ κ₁ : Lft) (image : MutBor (List ℕ)) (sector : ℕ) (bits : Bor (List ℕ)) where
  -- the number, and the image afterwards
  abbrev AccessMeets : ℕ → List ℕ → Type 0
  AccessMeets r last = write-access-contract.Post (κ₀, (κ₁, tt)) (image, (sector, (bits, tt))) r (at_last image last, (sector, (bits, tt)))

  pub tirlwheel_write_access_lem : (r r' : ℕ) (last last' : List ℕ) → AccessMeets r last → AccessMeets r' last' → (r ≡ r') × (last ≡ last')
  tirlwheel_write_access_lem r r' last last' m n = (m.0 ∙ sym n.0, m.1 ∙ sym n.1)

module _ (κ₀ κ₁ : Lft) (image : Bor (List ℕ)) (sector : ℕ) (bits : MutBor (List ℕ)) where
  -- the number, and the bits afterwards
  abbrev BitsMeet : ℕ → List ℕ → Type 0
  BitsMeet r told = read-access-contract.Post (κ₀, (κ₁, tt)) (image, (sector, (bits, tt))) r (image, (sector, (at_last bits told, tt)))

  pub tirlwheel_read_access_lem : (r r' : ℕ) (told told' : List ℕ) → BitsMeet r told → BitsMeet r' told' → (r ≡ r') × (told ≡ told')
  tirlwheel_read_access_lem r r' told told' m n = (m.0 ∙ sym n.0, m.1 ∙ sym n.1)

module _ (κ₀ κ₁ κ₂ : Lft) (image card : Bor (List ℕ)) (figures : MutBor (List ℕ)) where
  -- the number, and the figures afterwards
  abbrev OpenMeets : ℕ → List ℕ → Type 0
  OpenMeets r told = open-contract.Post (κ₀, (κ₁, (κ₂, tt))) (image, (card, (figures, tt))) r (image, (card, (at_last figures told, tt)))

  pub tirlwheel_open_lem : (r r' : ℕ) (told told' : List ℕ) → OpenMeets r told → OpenMeets r' told' → (r ≡ r') × (told ≡ told')
  tirlwheel_open_lem r r' told told' m n = (m.0 ∙ sym n.0, m.1 ∙ sym n.1)
