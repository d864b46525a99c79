-- One result for each public function of `value`, on the contract that its source states.
-- Assumes nothing.
use mathlib.Core.List.{List}
use Prim.Native.Nat.{ℕ}
use Rattle.value.proofs.word.Reads as word-contract
use Rattle.value.proofs.four.Reads as four-contract
use Rattle.value.proofs.encode.Reads as encode-contract
use Rattle.value.proofs.decode.Reads as decode-contract
use Rattle.value.proofs.plus.Reads as plus-contract
use Rattle.value.proofs.minus.Reads as minus-contract
use Rattle.demands.specs.One.{OneResult}
use Rattle.demands.proofs.Exact.{exact}

pub word : (b₀ b₁ b₂ b₃ : ℕ) → OneResult (λ r. word-contract.Post tt (b₀, (b₁, (b₂, (b₃, tt)))) r (b₀, (b₁, (b₂, (b₃, tt)))))
word b₀ b₁ b₂ b₃ = exact

pub four : (n : ℕ) → OneResult (λ r. four-contract.Post tt (n, tt) r (n, tt))
four n = exact

pub encode : (value : ℕ) (address : ℕ) → OneResult (λ r. encode-contract.Post tt (value, (address, tt)) r (value, (address, tt)))
encode value address = exact

pub decode : (block : List ℕ) → OneResult (λ r. decode-contract.Post tt (block, tt) r (block, tt))
decode block = exact

pub plus : (value : ℕ) (operand : ℕ) → OneResult (λ r. plus-contract.Post tt (value, (operand, tt)) r (value, (operand, tt)))
plus value operand = exact

pub minus : (value : ℕ) (operand : ℕ) → OneResult (λ r. minus-contract.Post tt (value, (operand, tt)) r (value, (operand, tt)))
minus value operand = exact
