-- One result for each public function of `access`, on the contract that its source states.
-- Assumes nothing.
use mathlib.Core.List.{List}
use Prim.Native.Nat.{ℕ}
use Rattle.access.specs.declared.rights.Letter.{Letter}
use Rattle.access.specs.declared.bits.AccessBytes.{AccessBytes}
use Rattle.access.specs.declared.rights.Keys.{Keys}
use Rattle.layout.specs.declared.Group.{Group}
use Rattle.access.specs.declared.rights.Operation.{Operation}
use Rattle.access.proofs.access_bytes_of.Reads as access-bytes-of-contract
use Rattle.access.proofs.bits_of.Reads as bits-of-contract
use Rattle.access.proofs.data_row.Reads as data-row-contract
use Rattle.access.proofs.trailer_row.Reads as trailer-row-contract
use Rattle.access.proofs.allows.Reads as allows-contract
use Rattle.access.proofs.may.Reads as may-contract
use Rattle.access.proofs.writable.Reads as writable-contract
use Rattle.access.proofs.is_readable.Reads as is-readable-contract
use Rattle.access.proofs.is_mute.Reads as is-mute-contract
use Rattle.demands.specs.One.{OneResult}
use Rattle.demands.proofs.Exact.{exact}

pub access_bytes_of_lem : (trailer : List ℕ) → OneResult (λ r. access-bytes-of-contract.Post tt (trailer, tt) r (trailer, tt))
access_bytes_of_lem trailer = exact

pub bits_of : (x : AccessBytes) (g : Group) → OneResult (λ r. bits-of-contract.Post tt (x, (g, tt)) r (x, (g, tt)))
bits_of x g = exact

pub data_row_lem : (bits : ℕ) → OneResult (λ r. data-row-contract.Post tt (bits, tt) r (bits, tt))
data_row_lem bits = exact

pub trailer_row_lem : (bits : ℕ) → OneResult (λ r. trailer-row-contract.Post tt (bits, tt) r (bits, tt))
trailer_row_lem bits = exact

pub allows : (k : Keys) (l : Letter) → OneResult (λ r. allows-contract.Post tt (k, (l, tt)) r (k, (l, tt)))
allows k l = exact

pub may : (l : Letter) (o : Operation) (bits : ℕ) → OneResult (λ r. may-contract.Post tt (l, (o, (bits, tt))) r (l, (o, (bits, tt))))
may l o bits = exact

pub writable : (l : Letter) (bits : ℕ) → OneResult (λ r. writable-contract.Post tt (l, (bits, tt)) r (l, (bits, tt)))
writable l bits = exact

pub is_readable_lem : (bits : ℕ) → OneResult (λ r. is-readable-contract.Post tt (bits, tt) r (bits, tt))
is_readable_lem bits = exact

pub is_mute_lem : (l : Letter) (bits : ℕ) → OneResult (λ r. is-mute-contract.Post tt (l, (bits, tt)) r (l, (bits, tt)))
is_mute_lem l bits = exact
