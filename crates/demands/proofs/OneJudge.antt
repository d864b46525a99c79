-- One result for each public function of `judge`, on the contract that its source states.
-- Assumes nothing.
use mathlib.Core.List.{List}
use Prim.Native.Nat.{ℕ}
use base.Fml.{Lft}
use denote.Ref.{Bor}
use Rattle.session.specs.declared.Session.{Session}
use Rattle.judge.specs.declared.Refusal.{Refusal}
use Rattle.judge.proofs.Refusal.number.Reads as number-contract
use Rattle.judge.proofs.refused.Reads as refused-contract
use Rattle.judge.proofs.judge.Reads as judge-contract
use Rattle.demands.specs.One.{OneResult}
use Rattle.demands.proofs.Exact.{exact}

pub number_lem : (r : Refusal) → OneResult (λ n. number-contract.Post tt (r, tt) n (r, tt))
number_lem r = exact

pub refused_lem : (r : Refusal) → OneResult (λ act. refused-contract.Post tt (r, tt) act (r, tt))
refused_lem r = exact

pub judge : (κ κ' : Lft) (image : Bor (List ℕ)) (s : Session) (frame : Bor (List ℕ)) → OneResult (λ r. judge-contract.Post (κ, (κ', tt)) (image, (s, (frame, tt))) r (image, (s, (frame, tt))))
judge κ κ' image s frame = exact
