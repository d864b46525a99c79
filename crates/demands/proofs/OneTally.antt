-- One result for each public function of `tally`, on the contract that its source states.
-- Assumes nothing.
use mathlib.Core.List.{List}
use Prim.Native.Nat.{ℕ}
use base.Fml.{Lft}
use denote.Ref.{Bor}
use Rattle.tally.specs.declared.change.Figures.{Figures}
use Rattle.tally.specs.declared.Refusal.{Refusal}
use Rattle.tally.proofs.Refusal.number.Reads as number-contract
use Rattle.tally.proofs.in_range.Reads as in-range-contract
use Rattle.tally.proofs.after.Reads as after-contract
use Rattle.tally.proofs.open.Reads as open-contract
use Rattle.tally.proofs.decode.Reads as decode-contract
use Rattle.tally.proofs.encode.Reads as encode-contract
use Rattle.demands.specs.One.{OneResult}
use Rattle.demands.proofs.Exact.{exact}

pub in_range_lem : (f : Figures) → OneResult (λ r. in-range-contract.Post tt (f, tt) r (f, tt))
in_range_lem f = exact

pub after : (f : Figures) (old new : List ℕ) → OneResult (λ r. after-contract.Post tt (f, (old, (new, tt))) r (f, (old, (new, tt))))
after f old new = exact

pub opening : (κ : Lft) (image : Bor (List ℕ)) → OneResult (λ r. open-contract.Post (κ, tt) (image, tt) r (image, tt))
opening κ image = exact

pub decode : (bytes : List ℕ) → OneResult (λ r. decode-contract.Post tt (bytes, tt) r (bytes, tt))
decode bytes = exact

pub encode : (f : Figures) → OneResult (λ r. encode-contract.Post tt (f, tt) r (f, tt))
encode f = exact

pub number : (r : Refusal) → OneResult (λ n. number-contract.Post tt (r, tt) n (r, tt))
number r = exact
