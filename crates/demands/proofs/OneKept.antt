-- One result for each public function of `kept`, on the contract that its source states: for the steps the answer, the figures and the whole image.
-- Assumes nothing.
use mathlib.Core.Path.{◌≡◌, sym, ◌∙◌}
use mathlib.Core.List.{List}
use Prim.Native.Nat.{ℕ}
use base.Fml.{Lft}
use denote.Bor.{Bor}
use denote.Ref.{MutBor, at_last}
use Rattle.session.specs.declared.Session.{Session}
use Rattle.edition.specs.declared.CardRecord.{CardRecord}
use Rattle.tally.specs.declared.change.Figures.{Figures}
use Rattle.kept.specs.Answers.{KeptAnswer}
use Rattle.kept.proofs.step.Reads as step-contract
use Rattle.kept.proofs.field_reset.Reads as field-reset-contract
use Rattle.kept.proofs.no_session.Reads as no-session-contract
use Rattle.kept.proofs.sealed_step.Reads as sealed-step-contract
use Rattle.kept.proofs.sealed_no_session.Reads as sealed-no-session-contract
use Rattle.demands.specs.One.{OneResult}
use Rattle.demands.proofs.Exact.{exact}

module _ (κ κ' : Lft) (image : MutBor (List ℕ)) (k : CardRecord) (f : Figures) (s : Session) (frame : Bor (List ℕ)) where
  -- an answer with its figures, and the image behind the reference afterwards
  abbrev Meets : KeptAnswer → List ℕ → Type 0
  Meets r last = step-contract.Post (κ, (κ', tt)) (image, (k, (f, (s, (frame, tt))))) r (at_last image last, (k, (f, (s, (frame, tt)))))

  pub step : (r r' : KeptAnswer) (last last' : List ℕ) → Meets r last → Meets r' last' → (r ≡ r') × (last ≡ last')
  step r r' last last' p q = (p.0 ∙ sym q.0, p.1 ∙ sym q.1)

  -- the same with a checksum
  abbrev SealedMeets : KeptAnswer → List ℕ → Type 0
  SealedMeets r last = sealed-step-contract.Post (κ, (κ', tt)) (image, (k, (f, (s, (frame, tt))))) r (at_last image last, (k, (f, (s, (frame, tt)))))

  pub sealed_step_lem : (r r' : KeptAnswer) (last last' : List ℕ) → SealedMeets r last → SealedMeets r' last' → (r ≡ r') × (last ≡ last')
  sealed_step_lem r r' last last' p q = (p.0 ∙ sym q.0, p.1 ∙ sym q.1)

pub field_reset_lem : (k : CardRecord) (f : Figures) → OneResult (λ r. field-reset-contract.Post tt (k, (f, tt)) r (k, (f, tt)))
field_reset_lem k f = exact

pub no_session_lem : (k : CardRecord) (f : Figures) (bytes : ℕ) → OneResult (λ r. no-session-contract.Post tt (k, (f, (bytes, tt))) r (k, (f, (bytes, tt))))
no_session_lem k f bytes = exact

pub sealed_no_session_lem : (k : CardRecord) (f : Figures) (bytes : ℕ) → OneResult (λ r. sealed-no-session-contract.Post tt (k, (f, (bytes, tt))) r (k, (f, (bytes, tt))))
sealed_no_session_lem k f bytes = exact
