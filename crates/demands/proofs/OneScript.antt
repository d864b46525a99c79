-- One result for each public function of `script`, on the contract that its source states. Of a part of the script that is handed back, the bytes are meant.
-- Assumes nothing.
use mathlib.Core.Path.{◌≡◌, sym, ◌∙◌}
use mathlib.Core.List.{List}
use Prim.Native.Nat.{ℕ}
use base.Fml.{Lft}
use denote.Ref.{Bor}
use Rattle.script.proofs.image_size.Reads as image-size-contract
use Rattle.script.proofs.image_of.Reads as image-of-contract
use Rattle.script.proofs.event_count.Reads as event-count-contract
use Rattle.script.proofs.events_start.Reads as events-start-contract
use Rattle.script.proofs.event_refusal.Reads as event-refusal-contract
use Rattle.script.proofs.next_at.Reads as next-at-contract
use Rattle.script.proofs.refusal_of.Reads as refusal-of-contract
use Rattle.script.proofs.ev1_choice.Reads as ev1-choice-contract
use Rattle.script.proofs.ev1_script.Reads as ev1-script-contract
use Rattle.demands.specs.One.{OneResult}
use Rattle.demands.proofs.Exact.{exact}

pub image_size_lem : (κ : Lft) (script : Bor (List ℕ)) → OneResult (λ r. image-size-contract.Post (κ, tt) (script, tt) r (script, tt))
image_size_lem κ script r r' p q = p.0 ∙ sym q.0

pub image_of_lem : (κ : Lft) (script r r' : Bor (List ℕ))
    → image-of-contract.Post (κ, tt) (script, tt) r (script, tt) → image-of-contract.Post (κ, tt) (script, tt) r' (script, tt) → r.now ≡ r'.now
image_of_lem κ script r r' p q = p ∙ sym q

pub event_count_lem : (κ : Lft) (script : Bor (List ℕ)) → OneResult (λ r. event-count-contract.Post (κ, tt) (script, tt) r (script, tt))
event_count_lem κ script = exact

pub events_start_lem : (κ : Lft) (script : Bor (List ℕ)) → OneResult (λ r. events-start-contract.Post (κ, tt) (script, tt) r (script, tt))
events_start_lem κ script = exact

pub next_at_lem : (κ : Lft) (script : Bor (List ℕ)) (at : ℕ) → OneResult (λ r. next-at-contract.Post (κ, tt) (script, (at, tt)) r (script, (at, tt)))
next_at_lem κ script at = exact

pub event_refusal_lem : (κ : Lft) (script : Bor (List ℕ)) (at : ℕ) → OneResult (λ r. event-refusal-contract.Post (κ, tt) (script, (at, tt)) r (script, (at, tt)))
event_refusal_lem κ script at = exact

pub refusal_of_lem : (κ : Lft) (script : Bor (List ℕ)) → OneResult (λ r. refusal-of-contract.Post (κ, tt) (script, tt) r (script, tt))
refusal_of_lem κ script = exact

pub ev1_choice_lem : (κ : Lft) (script : Bor (List ℕ)) → OneResult (λ r. ev1-choice-contract.Post (κ, tt) (script, tt) r (script, tt))
ev1_choice_lem κ script = exact

pub ev1_script_lem : (κ : Lft) (script : Bor (List ℕ)) → OneResult (λ r. ev1-script-contract.Post (κ, tt) (script, tt) r (script, tt))
ev1_script_lem κ script = exact
