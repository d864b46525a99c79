-- One result for each exported function of `keptedge` and `keptchip`, on the contract that its source states: the number and every byte of what was lent.
-- Assumes nothing.
use mathlib.Core.Path.{◌≡◌, sym, ◌∙◌}
use mathlib.Core.List.{List}
use Prim.Native.Nat.{ℕ}
use base.Fml.{Lft}
use denote.Bor.{Bor}
use denote.Ref.{MutBor, at_last}
use Rattle.keptedge.proofs.tirlwheel_kept_frame.Reads as frame-contract
use Rattle.keptedge.proofs.tirlwheel_kept_reset.Reads as reset-contract
use Rattle.keptchip.proofs.tirlwheel_kept_sealed_frame.Reads as sealed-contract

module _ (κ₀ κ₁ κ₂ κ₃ κ₄ κ₅ : Lft) (image card figures session : MutBor (List ℕ)) (frame : Bor (List ℕ)) (reply : MutBor (List ℕ)) where
  -- the number, and the image, both records, the figures and the reply afterwards
  abbrev pub KeptFrameMeets : ℕ → List ℕ → List ℕ → List ℕ → List ℕ → List ℕ → Type 0
  KeptFrameMeets r i c f s p =
      frame-contract.Post (κ₀, (κ₁, (κ₂, (κ₃, (κ₄, (κ₅, tt)))))) (image, (card, (figures, (session, (frame, (reply, tt)))))) r
      (at_last image i, (at_last card c, (at_last figures f, (at_last session s, (frame, (at_last reply p, tt))))))

  pub tirlwheel_kept_frame_lem : (r r' : ℕ) (i i' c c' f f' s s' p p' : List ℕ) → KeptFrameMeets r i c f s p → KeptFrameMeets r' i' c' f' s' p'
      → (r ≡ r') × (i ≡ i') × (c ≡ c') × (f ≡ f') × (s ≡ s') × (p ≡ p')
  tirlwheel_kept_frame_lem r r' i i' c c' f f' s s' p p' m n =
      (m.0 ∙ sym n.0, m.1.1.1.1.1 ∙ sym n.1.1.1.1.1, m.1.0 ∙ sym n.1.0, m.1.1.0 ∙ sym n.1.1.0, m.1.1.1.0 ∙ sym n.1.1.1.0, m.1.1.1.1.0 ∙ sym n.1.1.1.1.0)

  -- the same with a checksum
  abbrev pub KeptSealedMeets : ℕ → List ℕ → List ℕ → List ℕ → List ℕ → List ℕ → Type 0
  KeptSealedMeets r i c f s p =
      sealed-contract.Post (κ₀, (κ₁, (κ₂, (κ₃, (κ₄, (κ₅, tt)))))) (image, (card, (figures, (session, (frame, (reply, tt)))))) r
      (at_last image i, (at_last card c, (at_last figures f, (at_last session s, (frame, (at_last reply p, tt))))))

  pub tirlwheel_kept_sealed_frame_lem : (r r' : ℕ) (i i' c c' f f' s s' p p' : List ℕ) → KeptSealedMeets r i c f s p → KeptSealedMeets r' i' c' f' s' p'
      → (r ≡ r') × (i ≡ i') × (c ≡ c') × (f ≡ f') × (s ≡ s') × (p ≡ p')
  tirlwheel_kept_sealed_frame_lem r r' i i' c c' f f' s s' p p' m n =
      (m.0 ∙ sym n.0, m.1.1.1.1.1 ∙ sym n.1.1.1.1.1, m.1.0 ∙ sym n.1.0, m.1.1.0 ∙ sym n.1.1.0, m.1.1.1.0 ∙ sym n.1.1.1.0, m.1.1.1.1.0 ∙ sym n.1.1.1.1.0)

module _ (κ₀ κ₁ κ₂ κ₃ : Lft) (card figures : Bor (List ℕ)) (session reply : MutBor (List ℕ)) where
  -- the number, and the session's record and the reply afterwards
  abbrev pub KeptResetMeets : ℕ → List ℕ → List ℕ → Type 0
  KeptResetMeets r s p = reset-contract.Post (κ₀, (κ₁, (κ₂, (κ₃, tt)))) (card, (figures, (session, (reply, tt)))) r (card, (figures, (at_last session s, (at_last reply p, tt))))

  pub tirlwheel_kept_reset_lem : (r r' : ℕ) (s s' p p' : List ℕ) → KeptResetMeets r s p → KeptResetMeets r' s' p' → (r ≡ r') × (s ≡ s') × (p ≡ p')
  tirlwheel_kept_reset_lem r r' s s' p p' m n = (m.0 ∙ sym n.0, m.1.0 ∙ sym n.1.0, m.1.1 ∙ sym n.1.1)
