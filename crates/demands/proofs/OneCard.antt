-- One result for each public function of `card`, on the contract that its source states: for `step` the answer and the whole image.
-- Assumes nothing.
use mathlib.Core.Path.{◌≡◌, sym, ◌∙◌}
use mathlib.Core.List.{List}
use Prim.Native.Nat.{ℕ}
use base.Fml.{Lft}
use denote.Bor.{Bor}
use denote.Ref.{MutBor, at_last}
use Rattle.session.specs.declared.Session.{Session}
use Rattle.card.specs.declared.Sign.{Sign}
use Rattle.card.specs.Answers.{Answer}
use Rattle.judge.specs.declared.Act.{Act}
use Rattle.card.proofs.step.Reads as step-contract
use Rattle.card.proofs.enact.Reads as enact-contract
use Rattle.card.proofs.field_reset.Reads as field-reset-contract
use Rattle.card.proofs.no_session.Reads as no-session-contract
use Rattle.card.proofs.refusal.Reads as refusal-contract
use Rattle.card.proofs.sign_code.Reads as sign-code-contract
use Rattle.card.proofs.packed.Reads as packed-contract
use Rattle.demands.specs.One.{OneResult}
use Rattle.demands.proofs.Exact.{exact}

-- an answer, and the image behind the reference afterwards
abbrev Meets : Lft → Lft → MutBor (List ℕ) → Session → Bor (List ℕ) → Answer → List ℕ → Type 0
Meets κ κ' image s frame r last = step-contract.Post (κ, (κ', tt)) (image, (s, (frame, tt))) r (at_last image last, (s, (frame, tt)))

pub step : (κ κ' : Lft) (image : MutBor (List ℕ)) (s : Session) (frame : Bor (List ℕ)) (r r' : Answer) (last last' : List ℕ)
    → Meets κ κ' image s frame r last → Meets κ κ' image s frame r' last' → (r ≡ r') × (last ≡ last')
step κ κ' image s frame r r' last last' p q = (p.0 ∙ sym q.0, p.1 ∙ sym q.1)

-- the same for an act
abbrev Enacted : Lft → Lft → MutBor (List ℕ) → Session → Act → Bor (List ℕ) → Answer → List ℕ → Type 0
Enacted κ κ' image s act frame r last = enact-contract.Post (κ, (κ', tt)) (image, (s, (act, (frame, tt)))) r (at_last image last, (s, (act, (frame, tt))))

pub enact : (κ κ' : Lft) (image : MutBor (List ℕ)) (s : Session) (act : Act) (frame : Bor (List ℕ)) (r r' : Answer) (last last' : List ℕ)
    → Enacted κ κ' image s act frame r last → Enacted κ κ' image s act frame r' last' → (r ≡ r') × (last ≡ last')
enact κ κ' image s act frame r r' last last' p q = (p.0 ∙ sym q.0, p.1 ∙ sym q.1)

pub field_reset_lem : OneResult (λ r. field-reset-contract.Post tt tt r tt)
field_reset_lem = exact

pub refusal : (n : ℕ) → OneResult (λ r. refusal-contract.Post tt (n, tt) r (n, tt))
refusal n = exact

pub no_session_lem : (bytes : ℕ) → OneResult (λ r. no-session-contract.Post tt (bytes, tt) r (bytes, tt))
no_session_lem bytes = exact

pub sign_code_lem : (sign : Sign) → OneResult (λ r. sign-code-contract.Post tt (sign, tt) r (sign, tt))
sign_code_lem sign r r' p q = p.0 ∙ sym q.0

pub packed : (number : ℕ) (sign : Sign) → OneResult (λ r. packed-contract.Post tt (number, (sign, tt)) r (number, (sign, tt)))
packed number sign = exact
