-- One result for each public function of `sealed`, on the contract that its source states: for `step` the answer and the whole image.
-- Assumes nothing.
use mathlib.Core.Path.{◌≡◌, sym, ◌∙◌, ap}
use mathlib.Core.Bool.{false≢true}
use mathlib.Core.List.{List}
use Rattle.std.proofs.Common.{Option, Some, None}
use Prim.Native.Nat.{ℕ}
use base.Fml.{Lft}
use denote.Bor.{Bor}
use denote.Ref.{MutBor, at_last}
use Rattle.session.specs.declared.Session.{Session}
use Rattle.card.specs.Answers.{Answer}
use Rattle.sealed.proofs.step.Reads as step-contract
use Rattle.judge.specs.First.{Outcome, passes, refuses}
use Rattle.judge.proofs.Numbers.{same_refusal}
use Rattle.sealed.proofs.is_sealed.Reads as is-sealed-contract
use Rattle.sealed.proofs.inner.Reads as inner-contract
use Rattle.sealed.proofs.first_refusal.Reads as first-refusal-contract
use Rattle.sealed.proofs.sealed.Reads as sealed-contract
use Rattle.sealed.proofs.no_session.Reads as no-session-contract
use Rattle.demands.specs.One.{OneResult}
use Rattle.demands.proofs.Exact.{exact}

-- an answer, and the image behind the reference afterwards
abbrev Meets : Lft → Lft → MutBor (List ℕ) → Session → Bor (List ℕ) → Answer → List ℕ → Type 0
Meets κ κ' image s frame r last = step-contract.Post (κ, (κ', tt)) (image, (s, (frame, tt))) r (at_last image last, (s, (frame, tt)))

pub step : (κ κ' : Lft) (image : MutBor (List ℕ)) (s : Session) (frame : Bor (List ℕ)) (r r' : Answer) (last last' : List ℕ)
    → Meets κ κ' image s frame r last → Meets κ κ' image s frame r' last' → (r ≡ r') × (last ≡ last')
step κ κ' image s frame r r' last last' p q = (p.0 ∙ sym q.0, p.1 ∙ sym q.1)

pub no_session_lem : (bytes : ℕ) → OneResult (λ r. no-session-contract.Post tt (bytes, tt) r (bytes, tt))
no_session_lem bytes = exact

pub is_sealed_lem : (κ : Lft) (frame : Bor (List ℕ)) → OneResult (λ r. is-sealed-contract.Post (κ, tt) (frame, tt) r (frame, tt))
is_sealed_lem κ frame = exact

-- what bytes there are, if any
abbrev bytes_in : Option (Bor (List ℕ)) → Option (List ℕ)
bytes_in None = None
bytes_in (Some bare) = Some bare.now

pub inner_lem : (κ : Lft) (frame : Bor (List ℕ)) (r r' : Option (Bor (List ℕ))) (x x' : Option (List ℕ)) → bytes_in r ≡ x → bytes_in r' ≡ x'
    → inner-contract.Post (κ, tt) (frame, tt) r (frame, tt) → inner-contract.Post (κ, tt) (frame, tt) r' (frame, tt) → x ≡ x'
inner_lem κ frame None None x x' e e' p q = sym e ∙ e'
inner_lem κ frame None (Some b) x x' e e' p q = absurd (false≢true (sym q.0 ∙ p))
inner_lem κ frame (Some a) None x x' e e' p q = absurd (false≢true (sym p.0 ∙ q))
inner_lem κ frame (Some a) (Some b) x x' e e' p q = sym e ∙ ap Some (p.1 ∙ sym q.1) ∙ e'

-- the number of an outcome
abbrev number : Outcome → ℕ
number passes = 0
number (refuses n) = n

pub first_refusal_lem : (κ : Lft) (image : Bor (List ℕ)) (s : Session) → OneResult (λ r. first-refusal-contract.Post (κ, tt) (image, (s, tt)) r (image, (s, tt)))
first_refusal_lem κ image s r r' p q = same_refusal r r' (ap number (sym p ∙ q))

pub sealed : (a : Answer) → OneResult (λ r. sealed-contract.Post tt (a, tt) r (a, tt))
sealed a = exact
