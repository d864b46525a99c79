-- One result for each public function of `layout`, on the contract that its source states.
-- Assumes nothing.
use Prim.Native.Nat.{ℕ}
use Rattle.layout.specs.declared.Block.{Block}
use Rattle.layout.specs.declared.Sector.{Sector}
use Rattle.layout.specs.declared.Group.{Group}
use Rattle.layout.proofs.sectors_of.Reads as sectors-of-contract
use Rattle.layout.proofs.blocks_of.Reads as blocks-of-contract
use Rattle.layout.proofs.has_sector.Reads as has-sector-contract
use Rattle.layout.proofs.has_block.Reads as has-block-contract
use Rattle.layout.proofs.sector_of.Reads as sector-of-contract
use Rattle.layout.proofs.trailer_of.Reads as trailer-of-contract
use Rattle.layout.proofs.is_trailer.Reads as is-trailer-contract
use Rattle.layout.proofs.group_of.Reads as group-of-contract
use Rattle.layout.proofs.group_number.Reads as group-number-contract
use Rattle.demands.specs.One.{OneResult}
use Rattle.demands.proofs.Exact.{exact}

pub sectors_of_lem : (bytes : ℕ) → OneResult (λ r. sectors-of-contract.Post tt (bytes, tt) r (bytes, tt))
sectors_of_lem bytes = exact

pub blocks_of_lem : (bytes : ℕ) → OneResult (λ r. blocks-of-contract.Post tt (bytes, tt) r (bytes, tt))
blocks_of_lem bytes = exact

pub has_sector_lem : (bytes : ℕ) (s : Sector) → OneResult (λ r. has-sector-contract.Post tt (bytes, (s, tt)) r (bytes, (s, tt)))
has_sector_lem bytes s = exact

pub has_block : (bytes : ℕ) (b : Block) → OneResult (λ r. has-block-contract.Post tt (bytes, (b, tt)) r (bytes, (b, tt)))
has_block bytes b = exact

pub sector_of_lem : (b : Block) → OneResult (λ r. sector-of-contract.Post tt (b, tt) r (b, tt))
sector_of_lem b = exact

pub trailer_of_lem : (s : Sector) → OneResult (λ r. trailer-of-contract.Post tt (s, tt) r (s, tt))
trailer_of_lem s = exact

pub is_trailer_lem : (b : Block) → OneResult (λ r. is-trailer-contract.Post tt (b, tt) r (b, tt))
is_trailer_lem b = exact

pub group_of : (b : Block) → OneResult (λ r. group-of-contract.Post tt (b, tt) r (b, tt))
group_of b = exact

pub group_number_lem : (g : Group) → OneResult (λ r. group-number-contract.Post tt (g, tt) r (g, tt))
group_number_lem g = exact
