-- One result for each public function of `record`, on the contract that its source states.
-- Assumes nothing.
use mathlib.Core.List.{List}
use Prim.Native.Nat.{ℕ}
use Rattle.session.specs.declared.Session.{Session}
use Rattle.record.proofs.encode.Reads as encode-contract
use Rattle.record.proofs.decode.Reads as decode-contract
use Rattle.demands.specs.One.{OneResult}
use Rattle.demands.proofs.Exact.{exact}

pub encode : (s : Session) → OneResult (λ r. encode-contract.Post tt (s, tt) r (s, tt))
encode s = exact

pub decode : (bytes : List ℕ) → OneResult (λ r. decode-contract.Post tt (bytes, tt) r (bytes, tt))
decode bytes = exact
