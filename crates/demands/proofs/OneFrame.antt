-- One result for each public function of `frame`, on the contract that its source states.
-- Assumes nothing.
use mathlib.Core.List.{List}
use Prim.Native.Nat.{ℕ}
use base.Fml.{Lft}
use denote.Ref.{Bor}
use Rattle.session.specs.declared.Stage.{Stage}
use Rattle.frame.proofs.byte.Reads as byte-contract
use Rattle.frame.proofs.command_of.Reads as command-of-contract
use Rattle.demands.specs.One.{OneResult}
use Rattle.demands.proofs.Exact.{exact}

pub byte : (κ : Lft) (frame : Bor (List ℕ)) (i : ℕ) → OneResult (λ r. byte-contract.Post (κ, tt) (frame, (i, tt)) r (frame, (i, tt)))
byte κ frame i = exact

pub command_of_lem : (κ : Lft) (stage : Stage) (frame : Bor (List ℕ)) → OneResult (λ r. command-of-contract.Post (κ, tt) (stage, (frame, tt)) r (stage, (frame, tt)))
command_of_lem κ stage frame = exact
