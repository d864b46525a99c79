-- One result for each public function of `play`, on the contract that its source states: the length and the whole buffer; the end, the session and both buffers.
-- Assumes nothing.
use mathlib.Core.Path.{◌≡◌, sym, ◌∙◌, ap}
use mathlib.Core.List.{List}
use Prim.Native.Nat.{ℕ}
use base.Fml.{Lft}
use denote.Bor.{Bor}
use denote.Ref.{MutBor, at_last}
use Rattle.session.specs.declared.Session.{Session}
use Rattle.edition.specs.declared.CardRecord.{CardRecord}
use Rattle.play.specs.declared.Ended.{Ended}
use Rattle.play.proofs.play.Reads as play-contract
use Rattle.play.proofs.run.Reads as run-contract
use Rattle.play.proofs.play_ev1.Reads as play-ev1-contract
use Rattle.play.proofs.card_run.Reads as card-run-contract

-- a length, and the buffer behind the reference afterwards
abbrev Meets : Lft → Lft → Bor (List ℕ) → MutBor (List ℕ) → ℕ → List ℕ → Type 0
Meets κ κ' script out r last = play-contract.Post (κ, (κ', tt)) (script, (out, tt)) r (script, (at_last out last, tt))

pub play : (κ κ' : Lft) (script : Bor (List ℕ)) (out : MutBor (List ℕ)) (r r' : ℕ) (last last' : List ℕ)
    → Meets κ κ' script out r last → Meets κ κ' script out r' last' → (r ≡ r') × (last ≡ last')
play κ κ' script out r r' last last' p q = (p.0 ∙ sym q.0, p.1.0 ∙ sym q.1.0)

same_ended : (r r' : Ended) → r.end ≡ r'.end → r.session ≡ r'.session → r.card ≡ r'.card → r ≡ r'
same_ended r r' e f g =
    ap (λ (n : ℕ). record { end = n; session = r.session; card = r.card }) e ∙ ap (λ (s : Session). record { end = r'.end; session = s; card = r.card }) f
    ∙ ap (λ (k : CardRecord). record { end = r'.end; session = r'.session; card = k }) g

-- where the results end, the session and the record, the image and the results behind their references afterwards
abbrev Ran : Lft → Lft → Lft → Bor (List ℕ) → MutBor (List ℕ) → MutBor (List ℕ) → Ended → List ℕ → List ℕ → Type 0
Ran κ κ' κ'' script image results r last kept =
    run-contract.Post (κ, (κ', (κ'', tt))) (script, (image, (results, tt))) r (script, (at_last image last, (at_last results kept, tt)))

pub run : (κ κ' κ'' : Lft) (script : Bor (List ℕ)) (image results : MutBor (List ℕ)) (r r' : Ended) (last last' kept kept' : List ℕ)
    → Ran κ κ' κ'' script image results r last kept → Ran κ κ' κ'' script image results r' last' kept' → (r ≡ r') × (last ≡ last') × (kept ≡ kept')
run κ κ' κ'' script image results r r' last last' kept kept' p q =
    (same_ended r r' (p.1.1.1.0 ∙ sym q.1.1.1.0) (p.0 ∙ sym q.0) (p.1.0 ∙ sym q.1.0), p.1.1.0 ∙ sym q.1.1.0, p.1.1.1.1 ∙ sym q.1.1.1.1)

abbrev Ev1Meets : Lft → Lft → Bor (List ℕ) → MutBor (List ℕ) → ℕ → List ℕ → Type 0
Ev1Meets κ κ' script out r last = play-ev1-contract.Post (κ, (κ', tt)) (script, (out, tt)) r (script, (at_last out last, tt))

pub play_ev1_lem : (κ κ' : Lft) (script : Bor (List ℕ)) (out : MutBor (List ℕ)) (r r' : ℕ) (last last' : List ℕ)
    → Ev1Meets κ κ' script out r last → Ev1Meets κ κ' script out r' last' → (r ≡ r') × (last ≡ last')
play_ev1_lem κ κ' script out r r' last last' p q = (p.0 ∙ sym q.0, p.1.0 ∙ sym q.1.0)

-- where the results end, the session and the record, the image and the results behind their references afterwards
abbrev CardRan : Lft → Lft → Lft → Bor (List ℕ) → CardRecord → MutBor (List ℕ) → MutBor (List ℕ) → Ended → List ℕ → List ℕ → Type 0
CardRan κ κ' κ'' script card image results r last kept =
    card-run-contract.Post (κ, (κ', (κ'', tt))) (script, (card, (image, (results, tt)))) r (script, (card, (at_last image last, (at_last results kept, tt))))

pub card_run_lem : (κ κ' κ'' : Lft) (script : Bor (List ℕ)) (card : CardRecord) (image results : MutBor (List ℕ)) (r r' : Ended) (last last' kept kept' : List ℕ)
    → CardRan κ κ' κ'' script card image results r last kept → CardRan κ κ' κ'' script card image results r' last' kept' → (r ≡ r') × (last ≡ last') × (kept ≡ kept')
card_run_lem κ κ' κ'' script card image results r r' last last' kept kept' p q =
    (same_ended r r' (p.1.1.1.0 ∙ sym q.1.1.1.0) (p.0 ∙ sym q.0) (p.1.0 ∙ sym q.1.0), p.1.1.0 ∙ sym q.1.1.0, p.1.1.1.1 ∙ sym q.1.1.1.1)
