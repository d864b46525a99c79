-- One result for each public function of `session`, on the contract that its source states.
-- Assumes nothing.
use Prim.Native.Nat.{ℕ}
use Rattle.session.specs.Session.{Auth}
use Rattle.layout.specs.declared.Sector.{Sector}
use Rattle.session.specs.declared.Session.{Session}
use Rattle.session.specs.declared.Stage.{Stage}
use Rattle.session.proofs.fresh.Reads as fresh-contract
use Rattle.session.proofs.is_idle.Reads as is-idle-contract
use Rattle.session.proofs.is_coherent.Reads as is-coherent-contract
use Rattle.session.proofs.in_sector.Reads as in-sector-contract
use Rattle.demands.specs.One.{OneResult}
use Rattle.demands.proofs.Exact.{exact}

pub fresh : OneResult (λ r. fresh-contract.Post tt tt r tt)
fresh = exact

pub is_idle_lem : (stage : Stage) → OneResult (λ r. is-idle-contract.Post tt (stage, tt) r (stage, tt))
is_idle_lem stage = exact

pub is_coherent_lem : (bytes : ℕ) (s : Session) → OneResult (λ r. is-coherent-contract.Post tt (bytes, (s, tt)) r (bytes, (s, tt)))
is_coherent_lem bytes s = exact

pub in_sector_lem : (auth : Auth) (t : Sector) → OneResult (λ r. in-sector-contract.Post tt (auth, (t, tt)) r (auth, (t, tt)))
in_sector_lem auth t = exact
