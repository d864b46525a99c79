-- One result for each exported function of `edge`, `chip`, `printout` and `evprint`, on the contract that its source states: the number and every byte of what was lent.
-- Assumes nothing.
use mathlib.Core.Path.{◌≡◌, sym, ◌∙◌}
use mathlib.Core.List.{List}
use Prim.Native.Nat.{ℕ}
use base.Fml.{Lft}
use denote.Bor.{Bor}
use denote.Ref.{MutBor, at_last}
use Rattle.edge.proofs.tirlwheel_frame.Reads as frame-contract
use Rattle.edge.proofs.tirlwheel_field_reset.Reads as reset-contract
use Rattle.chip.proofs.tirlwheel_sealed_frame.Reads as sealed-contract
use Rattle.printout.proofs.tirlwheel_play.Reads as play-contract
use Rattle.evprint.proofs.tirlwheel_play_ev1.Reads as play-ev1-contract
use Rattle.edge.proofs.tirlwheel_version.Reads as version-contract
use Rattle.demands.specs.One.{OneResult}
use Rattle.demands.proofs.Exact.{exact}

module _ (κ₀ κ₁ κ₂ κ₃ : Lft) (image session : MutBor (List ℕ)) (frame : Bor (List ℕ)) (reply : MutBor (List ℕ)) where
  -- the number, and the image, the record and the reply afterwards
  abbrev pub FrameMeets : ℕ → List ℕ → List ℕ → List ℕ → Type 0
  FrameMeets r i s p =
      frame-contract.Post (κ₀, (κ₁, (κ₂, (κ₃, tt)))) (image, (session, (frame, (reply, tt)))) r
      (at_last image i, (at_last session s, (frame, (at_last reply p, tt))))

  pub tirlwheel_frame_lem : (r r' : ℕ) (i i' s s' p p' : List ℕ) → FrameMeets r i s p → FrameMeets r' i' s' p' → (r ≡ r') × (i ≡ i') × (s ≡ s') × (p ≡ p')
  tirlwheel_frame_lem r r' i i' s s' p p' m n =
      (m.0 ∙ sym n.0, m.1.1.1 ∙ sym n.1.1.1, m.1.0 ∙ sym n.1.0, m.1.1.0 ∙ sym n.1.1.0)

  -- the same with a checksum
  abbrev pub SealedMeets : ℕ → List ℕ → List ℕ → List ℕ → Type 0
  SealedMeets r i s p =
      sealed-contract.Post (κ₀, (κ₁, (κ₂, (κ₃, tt)))) (image, (session, (frame, (reply, tt)))) r
      (at_last image i, (at_last session s, (frame, (at_last reply p, tt))))

  pub tirlwheel_sealed_frame_lem : (r r' : ℕ) (i i' s s' p p' : List ℕ) → SealedMeets r i s p → SealedMeets r' i' s' p' → (r ≡ r') × (i ≡ i') × (s ≡ s') × (p ≡ p')
  tirlwheel_sealed_frame_lem r r' i i' s s' p p' m n =
      (m.0 ∙ sym n.0, m.1.1.1 ∙ sym n.1.1.1, m.1.0 ∙ sym n.1.0, m.1.1.0 ∙ sym n.1.1.0)

module _ (κ₀ κ₁ : Lft) (session reply : MutBor (List ℕ)) where
  -- the number, and the record and the reply afterwards
  abbrev pub ResetMeets : ℕ → List ℕ → List ℕ → Type 0
  ResetMeets r s p = reset-contract.Post (κ₀, (κ₁, tt)) (session, (reply, tt)) r (at_last session s, (at_last reply p, tt))

  pub tirlwheel_field_reset_lem : (r r' : ℕ) (s s' p p' : List ℕ) → ResetMeets r s p → ResetMeets r' s' p' → (r ≡ r') × (s ≡ s') × (p ≡ p')
  tirlwheel_field_reset_lem r r' s s' p p' m n = (m.0 ∙ sym n.0, m.1.0 ∙ sym n.1.0, m.1.1 ∙ sym n.1.1)

module _ (κ₀ κ₁ : Lft) (script : Bor (List ℕ)) (printout : MutBor (List ℕ)) where
  -- the length, and the buffer afterwards
  abbrev pub PlayMeets : ℕ → List ℕ → Type 0
  PlayMeets r last = play-contract.Post (κ₀, (κ₁, tt)) (script, (printout, tt)) r (script, (at_last printout last, tt))

  pub tirlwheel_play_lem : (r r' : ℕ) (last last' : List ℕ) → PlayMeets r last → PlayMeets r' last' → (r ≡ r') × (last ≡ last')
  tirlwheel_play_lem r r' last last' m n = (m.0 ∙ sym n.0, m.1 ∙ sym n.1)

module _ (κ₀ κ₁ : Lft) (script : Bor (List ℕ)) (printout : MutBor (List ℕ)) where
  abbrev pub PlayEv1Meets : ℕ → List ℕ → Type 0
  PlayEv1Meets r last = play-ev1-contract.Post (κ₀, (κ₁, tt)) (script, (printout, tt)) r (script, (at_last printout last, tt))

  pub tirlwheel_play_ev1_lem : (r r' : ℕ) (last last' : List ℕ) → PlayEv1Meets r last → PlayEv1Meets r' last' → (r ≡ r') × (last ≡ last')
  tirlwheel_play_ev1_lem r r' last last' m n = (m.0 ∙ sym n.0, m.1 ∙ sym n.1)

pub tirlwheel_version_lem : OneResult (λ r. version-contract.Post tt tt r tt)
tirlwheel_version_lem = exact
