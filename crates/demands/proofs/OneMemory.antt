-- One result for each public function of `memory`, on the contract that its source states.
-- Assumes nothing.
use mathlib.Core.List.{List}
use Prim.Native.Nat.{ℕ}
use base.Fml.{Lft}
use denote.Bor.{Bor}
use denote.Ref.{MutBor, at_last}
use Rattle.layout.specs.declared.Block.{Block}
use Rattle.memory.proofs.sixteen.Reads as sixteen-contract
use Rattle.memory.proofs.byte.Reads as byte-contract
use Rattle.memory.proofs.content.Reads as content-contract
use Rattle.memory.proofs.store.Reads as store-contract
use Rattle.demands.specs.One.{OneResult}
use Rattle.demands.proofs.Exact.{exact}

pub sixteen : (κ : Lft) (bytes : Bor (List ℕ)) → OneResult (λ r. sixteen-contract.Post (κ, tt) (bytes, tt) r (bytes, tt))
sixteen κ bytes = exact

pub byte : (κ : Lft) (image : Bor (List ℕ)) (b : Block) (i : ℕ) → OneResult (λ r. byte-contract.Post (κ, tt) (image, (b, (i, tt))) r (image, (b, (i, tt))))
byte κ image b i = exact

pub content : (κ : Lft) (image : Bor (List ℕ)) (b : Block) → OneResult (λ r. content-contract.Post (κ, tt) (image, (b, tt)) r (image, (b, tt)))
content κ image b = exact

pub store : (κ : Lft) (image : MutBor (List ℕ)) (b : Block) (bytes : List ℕ) → OneResult (λ last. store-contract.Post (κ, tt) (image, (b, (bytes, tt))) tt (at_last image last, (b, (bytes, tt))))
store κ image b bytes = exact
