-- One result for each exported function of `cardedge` and `cardchip`, on the contract that its source states: the number and every byte of what was lent.
-- Assumes nothing.
use mathlib.Core.Path.{◌≡◌, sym, ◌∙◌}
use mathlib.Core.List.{List}
use Prim.Native.Nat.{ℕ}
use base.Fml.{Lft}
use denote.Bor.{Bor}
use denote.Ref.{MutBor, at_last}
use Rattle.cardedge.proofs.tirlwheel_card_frame.Reads as frame-contract
use Rattle.cardedge.proofs.tirlwheel_card_reset.Reads as reset-contract
use Rattle.cardchip.proofs.tirlwheel_card_sealed_frame.Reads as sealed-contract

module _ (κ₀ κ₁ κ₂ κ₃ κ₄ : Lft) (image card session : MutBor (List ℕ)) (frame : Bor (List ℕ)) (reply : MutBor (List ℕ)) where
  -- the number, and the image, both records and the reply afterwards
  abbrev pub CardFrameMeets : ℕ → List ℕ → List ℕ → List ℕ → List ℕ → Type 0
  CardFrameMeets r i c s p =
      frame-contract.Post (κ₀, (κ₁, (κ₂, (κ₃, (κ₄, tt))))) (image, (card, (session, (frame, (reply, tt))))) r
      (at_last image i, (at_last card c, (at_last session s, (frame, (at_last reply p, tt)))))

  pub tirlwheel_card_frame_lem : (r r' : ℕ) (i i' c c' s s' p p' : List ℕ) → CardFrameMeets r i c s p → CardFrameMeets r' i' c' s' p'
      → (r ≡ r') × (i ≡ i') × (c ≡ c') × (s ≡ s') × (p ≡ p')
  tirlwheel_card_frame_lem r r' i i' c c' s s' p p' m n =
      (m.0 ∙ sym n.0, m.1.1.1.1 ∙ sym n.1.1.1.1, m.1.0 ∙ sym n.1.0, m.1.1.0 ∙ sym n.1.1.0, m.1.1.1.0 ∙ sym n.1.1.1.0)

  -- the same with a checksum
  abbrev pub CardSealedMeets : ℕ → List ℕ → List ℕ → List ℕ → List ℕ → Type 0
  CardSealedMeets r i c s p =
      sealed-contract.Post (κ₀, (κ₁, (κ₂, (κ₃, (κ₄, tt))))) (image, (card, (session, (frame, (reply, tt))))) r
      (at_last image i, (at_last card c, (at_last session s, (frame, (at_last reply p, tt)))))

  pub tirlwheel_card_sealed_frame_lem : (r r' : ℕ) (i i' c c' s s' p p' : List ℕ) → CardSealedMeets r i c s p → CardSealedMeets r' i' c' s' p'
      → (r ≡ r') × (i ≡ i') × (c ≡ c') × (s ≡ s') × (p ≡ p')
  tirlwheel_card_sealed_frame_lem r r' i i' c c' s s' p p' m n =
      (m.0 ∙ sym n.0, m.1.1.1.1 ∙ sym n.1.1.1.1, m.1.0 ∙ sym n.1.0, m.1.1.0 ∙ sym n.1.1.0, m.1.1.1.0 ∙ sym n.1.1.1.0)

module _ (κ₀ κ₁ κ₂ : Lft) (card : Bor (List ℕ)) (session reply : MutBor (List ℕ)) where
  -- the number, and the session's record and the reply afterwards
  abbrev pub CardResetMeets : ℕ → List ℕ → List ℕ → Type 0
  CardResetMeets r s p = reset-contract.Post (κ₀, (κ₁, (κ₂, tt))) (card, (session, (reply, tt))) r (card, (at_last session s, (at_last reply p, tt)))

  pub tirlwheel_card_reset_lem : (r r' : ℕ) (s s' p p' : List ℕ) → CardResetMeets r s p → CardResetMeets r' s' p' → (r ≡ r') × (s ≡ s') × (p ≡ p')
  tirlwheel_card_reset_lem r r' s s' p p' m n = (m.0 ∙ sym n.0, m.1.0 ∙ sym n.1.0, m.1.1 ∙ sym n.1.1)
