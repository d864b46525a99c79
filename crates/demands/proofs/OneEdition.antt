-- One result for each public function of `edition`, on the contract that its source states.
-- Assumes nothing.
use mathlib.Core.List.{List}
use Prim.Native.Nat.{ℕ}
use Rattle.edition.specs.declared.Edition.{Edition}
use Rattle.edition.specs.declared.CardRecord.{CardRecord}
use Rattle.edition.proofs.old_card.Reads as old-card-contract
use Rattle.edition.proofs.usage_of.Reads as usage-of-contract
use Rattle.edition.proofs.is_wrong_size.Reads as is-wrong-size-contract
use Rattle.edition.proofs.encode.Reads as encode-contract
use Rattle.edition.proofs.is_usage.Reads as is-usage-contract
use Rattle.edition.proofs.choice_by.Reads as choice-by-contract
use Rattle.edition.proofs.decode.Reads as decode-contract
use Rattle.demands.specs.One.{OneResult}
use Rattle.demands.proofs.Exact.{exact}

pub old_card_lem : OneResult (λ r. old-card-contract.Post tt tt r tt)
old_card_lem = exact

pub usage_of_lem : (code : ℕ) → OneResult (λ r. usage-of-contract.Post tt (code, tt) r (code, tt))
usage_of_lem code = exact

pub is_wrong_size_lem : (edition : Edition) (bytes : ℕ) → OneResult (λ r. is-wrong-size-contract.Post tt (edition, (bytes, tt)) r (edition, (bytes, tt)))
is_wrong_size_lem edition bytes = exact

pub encode : (k : CardRecord) → OneResult (λ r. encode-contract.Post tt (k, tt) r (k, tt))
encode k = exact

pub is_usage_lem : (code : ℕ) → OneResult (λ r. is-usage-contract.Post tt (code, tt) r (code, tt))
is_usage_lem code = exact

pub choice_by_lem : (lock code : ℕ) → OneResult (λ r. choice-by-contract.Post tt (lock, (code, tt)) r (lock, (code, tt)))
choice_by_lem lock code = exact

pub decode : (bytes : List ℕ) → OneResult (λ r. decode-contract.Post tt (bytes, tt) r (bytes, tt))
decode bytes = exact
