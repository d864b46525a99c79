-- One result for each public function of `mend`, on the contract that its source states: the refusal, and every byte of what was lent.
-- Assumes nothing.
use mathlib.Core.Path.{◌≡◌, sym, ◌∙◌}
use mathlib.Core.List.{List}
use Prim.Native.Nat.{ℕ}
use base.Fml.{Lft}
use denote.Bor.{Bor}
use denote.Ref.{MutBor, at_last}
use Rattle.layout.specs.declared.Block.{Block}
use Rattle.std.specs.Prelude.{Result}
use Rattle.mend.specs.declared.BlockRefusal.{BlockRefusal}
use Rattle.mend.specs.declared.CallRefusal.{CallRefusal}
use Rattle.mend.proofs.BlockRefusal.number.Reads as block-number-contract
use Rattle.mend.proofs.CallRefusal.number.Reads as call-number-contract
use Rattle.mend.proofs.majority_of.Reads as majority-of-contract
use Rattle.mend.proofs.mend_block.Reads as mend-block-contract
use Rattle.mend.proofs.mend.Reads as mend-contract
use Rattle.demands.specs.One.{OneResult}
use Rattle.demands.proofs.Exact.{exact}

pub majority_of_lem : (block : List ℕ) → OneResult (λ r. majority-of-contract.Post tt (block, tt) r (block, tt))
majority_of_lem block = exact

-- what is told of a block, and the image behind the reference afterwards
abbrev BlockMeets : Lft → MutBor (List ℕ) → Block → Result ℕ BlockRefusal → List ℕ → Type 0
BlockMeets κ image b r last = mend-block-contract.Post (κ, tt) (image, (b, tt)) r (at_last image last, (b, tt))

pub mend_block_lem : (κ : Lft) (image : MutBor (List ℕ)) (b : Block) (r r' : Result ℕ BlockRefusal) (last last' : List ℕ)
    → BlockMeets κ image b r last → BlockMeets κ image b r' last' → (r ≡ r') × (last ≡ last')
mend_block_lem κ image b r r' last last' p q = (p.0 ∙ sym q.0, p.1 ∙ sym q.1)

module _ (κ₀ κ₁ κ₂ : Lft) (image : MutBor (List ℕ)) (names : Bor (List ℕ)) (report : MutBor (List ℕ)) where
  -- the refusal, and the image and the report afterwards
  abbrev MendMeets : Result (Unit {0}) CallRefusal → List ℕ → List ℕ → Type 0
  MendMeets r last told =
      mend-contract.Post (κ₀, (κ₁, (κ₂, tt))) (image, (names, (report, tt))) r (at_last image last, (names, (at_last report told, tt)))

  pub mend : (r r' : Result (Unit {0}) CallRefusal) (last last' told told' : List ℕ) → MendMeets r last told → MendMeets r' last' told' → (r ≡ r') × (last ≡ last') × (told ≡ told')
  mend r r' last last' told told' m n = (m.0 ∙ sym n.0, m.1.0 ∙ sym n.1.0, m.1.1 ∙ sym n.1.1)

pub block_number : (r : BlockRefusal) → OneResult (λ n. block-number-contract.Post tt (r, tt) n (r, tt))
block_number r = exact

pub call_number : (r : CallRefusal) → OneResult (λ n. call-number-contract.Post tt (r, tt) n (r, tt))
call_number r = exact
