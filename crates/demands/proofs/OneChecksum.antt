-- One result for each public function of `checksum`, on the contract that its source states.
-- Assumes nothing.
use mathlib.Core.List.{List}
use Prim.Native.Nat.{ℕ}
use base.Fml.{Lft}
use denote.Ref.{Bor}
use Rattle.checksum.proofs.crc_a.Reads as crc-a-contract
use Rattle.checksum.proofs.two.Reads as two-contract
use Rattle.demands.specs.One.{OneResult}
use Rattle.demands.proofs.Exact.{exact}

pub crc_a_lem : (κ : Lft) (bytes : Bor (List ℕ)) → OneResult (λ r. crc-a-contract.Post (κ, tt) (bytes, tt) r (bytes, tt))
crc_a_lem κ bytes = exact

pub two : (crc : ℕ) → OneResult (λ r. two-contract.Post tt (crc, tt) r (crc, tt))
two crc = exact
