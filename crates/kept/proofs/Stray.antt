-- A session that 12 refuses: the answer without figures, and the figures as they came.
-- Assumes nothing.
use mathlib.Core.Path.{◌≡◌, refl}
use mathlib.Core.Bool.{Bool, true, false, cond}
use mathlib.Core.List.{List}
use Prim.Native.Nat.{ℕ}
use lib.ListN.{length}
use Rattle.session.specs.declared.Session.{Session}
use Rattle.judge.specs.First.{refuses, first, ruled}
use Rattle.judge.specs.Checks.{no_card, incoherent, frame_checks}
use Rattle.judge.specs.declared.Act.{Act}
use Rattle.judge.specs.declared.Act.TheVariants.{Refused}
use Rattle.card.specs.Effects.{image_of}
use Rattle.sealed.specs.Sealed.{inner_of}
use Rattle.edition.specs.Edition.{wrong_size}
use Rattle.edition.specs.declared.CardRecord.{CardRecord}
use Rattle.either_card.specs.Either.{card_act_of, sealed_card_act_of, given_for, card_answer_of, card_image_after, sealed_card_of, sealed_card_answer_of, sealed_card_image_after, card_no_session_of}
use Rattle.either_card.proofs.Stray.{no_session_bare, no_session_sealed}
use Rattle.tally.specs.declared.change.Figures.{Figures}
use Rattle.kept.specs.Kept.{settled_by, lastly, kept_checks, kept_act_of, kept_for, kept_answer_of, kept_image_after, sealed_kept_of, sealed_kept_answer_of, sealed_kept_image_after, kept_no_session_of}
use Rattle.kept.proofs.Laws.{Early, early, early_card, early_sealed}

module _ (image : List ℕ) (k : CardRecord) (f : Figures) (s : Session) (stray : incoherent image s ≡ true) where
  -- its act is a refusal, and stays one with the figures
  stays : (frame : List ℕ) (act : Act) → Early image k s act → (n : ℕ) × (act ≡ Refused n) × (kept_act_of image k f s frame act ≡ Refused n)
  unfolding kept_act_of kept_checks frame_checks first ruled
  stays frame act h = rw stray (go (wrong_size k.edition (length image)) (no_card image) (rw stray at h))
    where
      go : (w x : Bool) → ((n : ℕ) → early w x true ≡ refuses n → act ≡ Refused n)
          → (n : ℕ) × (act ≡ Refused n)
          × (ruled (cond w (refuses 11) (cond x (refuses 11) (refuses 12))) (lastly (settled_by image f act frame) act) ≡ Refused n)
      go true x h = (11, h 11 refl, refl)
      go false true h = (11, h 11 refl, refl)
      go false false h = (12, h 12 refl, refl)

  pub no_session_kept : (frame : List ℕ) → (kept_answer_of image k f s frame ≡ kept_no_session_of k f (length image)) × (kept_image_after image k f s frame ≡ image)
  unfolding kept_answer_of kept_image_after kept_for settled_by card_answer_of card_image_after image_of
  no_session_kept frame =
      let r = stays frame (card_act_of image k s frame) (early_card image k s frame) in
      let law = no_session_bare image k s stray frame in
      let told : given_for image k s frame (Refused r.0) ≡ card_no_session_of k (length image) = rw r.1 at law.0 in
      rw (r.2, told) (refl, refl)

  pub no_session_sealed_kept : (frame : List ℕ) → (sealed_kept_answer_of image k f s frame ≡ sealed_kept_of (kept_no_session_of k f (length image))) × (sealed_kept_image_after image k f s frame ≡ image)
  unfolding sealed_kept_answer_of sealed_kept_image_after sealed_kept_of kept_for settled_by sealed_card_answer_of sealed_card_image_after image_of
  no_session_sealed_kept frame =
      let r = stays (inner_of frame) (sealed_card_act_of image k s frame) (early_sealed image k s frame) in
      let law = no_session_sealed image k s stray frame in
      let told : sealed_card_of (given_for image k s (inner_of frame) (Refused r.0)) ≡ sealed_card_of (card_no_session_of k (length image)) = rw r.1 at law.0 in
      rw (r.2, told) (refl, refl)
