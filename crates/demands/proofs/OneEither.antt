-- One result for each public function of `either`, on the contract that its source states: for the steps the answer and the whole image.
-- Assumes nothing.
use mathlib.Core.Path.{◌≡◌, sym, ◌∙◌}
use mathlib.Core.List.{List}
use Prim.Native.Nat.{ℕ}
use base.Fml.{Lft}
use denote.Bor.{Bor}
use denote.Ref.{MutBor, at_last}
use Rattle.session.specs.declared.Session.{Session}
use Rattle.judge.specs.declared.Act.{Act}
use Rattle.edition.specs.declared.CardRecord.{CardRecord}
use Rattle.either_card.specs.Answers.{CardAnswer}
use Rattle.either_card.proofs.judge.Reads as judge-contract
use Rattle.either_card.proofs.enact.Reads as enact-contract
use Rattle.either_card.proofs.refusal.Reads as refusal-contract
use Rattle.either_card.proofs.step.Reads as step-contract
use Rattle.either_card.proofs.field_reset.Reads as field-reset-contract
use Rattle.either_card.proofs.no_session.Reads as no-session-contract
use Rattle.either_card.proofs.sealed_card.Reads as sealed-card-contract
use Rattle.either_card.proofs.sealed_step.Reads as sealed-step-contract
use Rattle.either_card.proofs.sealed_no_session.Reads as sealed-no-session-contract
use Rattle.demands.specs.One.{OneResult}
use Rattle.demands.proofs.Exact.{exact}

pub judge : (κ κ' : Lft) (image : Bor (List ℕ)) (k : CardRecord) (s : Session) (frame : Bor (List ℕ))
    → OneResult (λ r. judge-contract.Post (κ, (κ', tt)) (image, (k, (s, (frame, tt)))) r (image, (k, (s, (frame, tt)))))
judge κ κ' image k s frame = exact

module _ (κ κ' : Lft) (image : MutBor (List ℕ)) (k : CardRecord) (s : Session) (frame : Bor (List ℕ)) where
  -- what an act does: an answer, and the image behind the reference afterwards
  abbrev EnactMeets : Act → CardAnswer → List ℕ → Type 0
  EnactMeets act r last = enact-contract.Post (κ, (κ', tt)) (image, (k, (s, (act, (frame, tt))))) r (at_last image last, (k, (s, (act, (frame, tt)))))

  pub enact : (act : Act) (r r' : CardAnswer) (last last' : List ℕ) → EnactMeets act r last → EnactMeets act r' last' → (r ≡ r') × (last ≡ last')
  enact act r r' last last' p q = (p.0 ∙ sym q.0, p.1 ∙ sym q.1)

  -- an answer, and the image behind the reference afterwards
  abbrev Meets : CardAnswer → List ℕ → Type 0
  Meets r last = step-contract.Post (κ, (κ', tt)) (image, (k, (s, (frame, tt)))) r (at_last image last, (k, (s, (frame, tt))))

  pub step : (r r' : CardAnswer) (last last' : List ℕ) → Meets r last → Meets r' last' → (r ≡ r') × (last ≡ last')
  step r r' last last' p q = (p.0 ∙ sym q.0, p.1 ∙ sym q.1)

  -- the same with a checksum
  abbrev SealedMeets : CardAnswer → List ℕ → Type 0
  SealedMeets r last = sealed-step-contract.Post (κ, (κ', tt)) (image, (k, (s, (frame, tt)))) r (at_last image last, (k, (s, (frame, tt))))

  pub sealed_step_lem : (r r' : CardAnswer) (last last' : List ℕ) → SealedMeets r last → SealedMeets r' last' → (r ≡ r') × (last ≡ last')
  sealed_step_lem r r' last last' p q = (p.0 ∙ sym q.0, p.1 ∙ sym q.1)

pub refusal : (k : CardRecord) (s : Session) (n : ℕ) → OneResult (λ r. refusal-contract.Post tt (k, (s, (n, tt))) r (k, (s, (n, tt))))
refusal k s n = exact

pub sealed_card_lem : (a : CardAnswer) → OneResult (λ r. sealed-card-contract.Post tt (a, tt) r (a, tt))
sealed_card_lem a = exact

pub field_reset_lem : (k : CardRecord) → OneResult (λ r. field-reset-contract.Post tt (k, tt) r (k, tt))
field_reset_lem k = exact

pub no_session_lem : (k : CardRecord) (bytes : ℕ) → OneResult (λ r. no-session-contract.Post tt (k, (bytes, tt)) r (k, (bytes, tt)))
no_session_lem k bytes = exact

pub sealed_no_session_lem : (k : CardRecord) (bytes : ℕ) → OneResult (λ r. sealed-no-session-contract.Post tt (k, (bytes, tt)) r (k, (bytes, tt)))
sealed_no_session_lem k bytes = exact
