-- One result for each call of `board`: the answer, the session behind the reference and the image, afterwards.
--     frame_says, reset_says, card_frame_says, card_reset_says    the contract that the source states is the fact below it, so a contract that is loosened breaks them
-- Assumes nothing.
use mathlib.Core.Path.{◌≡◌, refl, sym, ◌∙◌}
use Prim.Native.Nat.{ℕ}
use mathlib.Core.List.{List}
use seplogic.Ra.Ura.{Ura}
use base.Logic.{SProp}
use base.Fml.{Lft}
use prog.Memory.{Memory}
use prog.Routine.{Routine}
use types.Logic.{Logic}
use contract.Monad.{Fun, fact}
use denote.Bor.{Bor}
use denote.Ref.{MutBor}
use denote.Triple.Clauses.{at_exit}
use Rattle.session.specs.declared.Session.{Session}
use Rattle.card.specs.Step.{answer_of, image_after, reset_of}
use Rattle.card.specs.Answers.{Answer}
use Rattle.edition.specs.declared.CardRecord.{CardRecord}
use Rattle.either_card.specs.Either.{card_answer_of, card_image_after, card_reset_of}
use Rattle.either_card.specs.Answers.{CardAnswer}
use Rattle.board.specs.contracts.frame as frame-contract
use Rattle.board.specs.contracts.field_reset as reset-contract
use Rattle.board.specs.contracts.card_frame as card-frame-contract
use Rattle.board.specs.contracts.card_reset as card-reset-contract

module _ (image : MutBor (List ℕ)) (session : MutBor Session) (sent : Bor (List ℕ)) where
  abbrev pub FrameSaid : Answer → Session → List ℕ → Type 0
  FrameSaid r s last =
      (r ≡ answer_of image.now session.now sent.now) × (s ≡ (answer_of image.now session.now sent.now).session)
      × (last ≡ image_after image.now session.now sent.now)

  pub frame_says : {M : Type 1} {𝓤 : Ura M} (𝓛 : Logic 𝓤) (mem : Memory → SProp 𝓤) (run : Routine → Fun 𝓤) (κ₀ κ₁ κ₂ : Lft) (r : Answer) (s : Session) (last : List ℕ)
      → ◌≡◌ {A = SProp 𝓤}
      ((frame-contract.clauses 𝓛 mem run (κ₀, (κ₁, (κ₂, tt))) (image, (session, (sent, tt)))).ensures tt r (at_exit frame-contract.ended (κ₀, (κ₁, (κ₂, tt))) (image, (session, (sent, tt))) (last, (s, (tt, tt)))))
      (fact 𝓤 (FrameSaid r s last))
  frame_says 𝓛 mem run κ₀ κ₁ κ₂ r s last = refl

  pub frame : (r r' : Answer) (s s' : Session) (last last' : List ℕ) → FrameSaid r s last → FrameSaid r' s' last' → (r ≡ r') × (s ≡ s') × (last ≡ last')
  frame r r' s s' last last' p q = (p.0 ∙ sym q.0, p.1 ∙ sym q.1, p.2 ∙ sym q.2)

module _ (session : MutBor Session) where
  abbrev pub ResetSaid : Answer → Session → Type 0
  ResetSaid r s = (r ≡ reset_of) × (s ≡ reset_of.session)

  pub reset_says : {M : Type 1} {𝓤 : Ura M} (𝓛 : Logic 𝓤) (mem : Memory → SProp 𝓤) (run : Routine → Fun 𝓤) (κ : Lft) (r : Answer) (s : Session)
      → ◌≡◌ {A = SProp 𝓤}
      ((reset-contract.clauses 𝓛 mem run (κ, tt) (session, tt)).ensures tt r (at_exit reset-contract.ended (κ, tt) (session, tt) (s, tt)))
      (fact 𝓤 (ResetSaid r s))
  reset_says 𝓛 mem run κ r s = refl

  pub field_reset_lem : (r r' : Answer) (s s' : Session) → ResetSaid r s → ResetSaid r' s' → (r ≡ r') × (s ≡ s')
  field_reset_lem r r' s s' p q = (p.0 ∙ sym q.0, p.1 ∙ sym q.1)

-- a card with its record, which comes back in the answer
module _ (image : MutBor (List ℕ)) (card : CardRecord) (session : MutBor Session) (sent : Bor (List ℕ)) where
  abbrev pub CardFrameSaid : CardAnswer → Session → List ℕ → Type 0
  CardFrameSaid r s last =
      (r ≡ card_answer_of image.now card session.now sent.now) × (s ≡ (card_answer_of image.now card session.now sent.now).answer.session)
      × (last ≡ card_image_after image.now card session.now sent.now)

  pub card_frame_says : {M : Type 1} {𝓤 : Ura M} (𝓛 : Logic 𝓤) (mem : Memory → SProp 𝓤) (run : Routine → Fun 𝓤) (κ₀ κ₁ κ₂ : Lft) (r : CardAnswer) (s : Session) (last : List ℕ)
      → ◌≡◌ {A = SProp 𝓤}
      ((card-frame-contract.clauses 𝓛 mem run (κ₀, (κ₁, (κ₂, tt))) (image, (card, (session, (sent, tt))))).ensures tt r (at_exit card-frame-contract.ended (κ₀, (κ₁, (κ₂, tt))) (image, (card, (session, (sent, tt)))) (last, (tt, (s, (tt, tt))))))
      (fact 𝓤 (CardFrameSaid r s last))
  card_frame_says 𝓛 mem run κ₀ κ₁ κ₂ r s last = refl

  pub card_frame_lem : (r r' : CardAnswer) (s s' : Session) (last last' : List ℕ) → CardFrameSaid r s last → CardFrameSaid r' s' last' → (r ≡ r') × (s ≡ s') × (last ≡ last')
  card_frame_lem r r' s s' last last' p q = (p.0 ∙ sym q.0, p.1 ∙ sym q.1, p.2 ∙ sym q.2)

module _ (card : CardRecord) (session : MutBor Session) where
  abbrev pub CardResetSaid : CardAnswer → Session → Type 0
  CardResetSaid r s = (r ≡ card_reset_of card) × (s ≡ (card_reset_of card).answer.session)

  pub card_reset_says : {M : Type 1} {𝓤 : Ura M} (𝓛 : Logic 𝓤) (mem : Memory → SProp 𝓤) (run : Routine → Fun 𝓤) (κ : Lft) (r : CardAnswer) (s : Session)
      → ◌≡◌ {A = SProp 𝓤}
      ((card-reset-contract.clauses 𝓛 mem run (κ, tt) (card, (session, tt))).ensures tt r (at_exit card-reset-contract.ended (κ, tt) (card, (session, tt)) (tt, (s, tt))))
      (fact 𝓤 (CardResetSaid r s))
  card_reset_says 𝓛 mem run κ r s = refl

  pub card_reset_lem : (r r' : CardAnswer) (s s' : Session) → CardResetSaid r s → CardResetSaid r' s' → (r ≡ r') × (s ≡ s')
  card_reset_lem r r' s s' p q = (p.0 ∙ sym q.0, p.1 ∙ sym q.1)
