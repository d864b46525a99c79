-- A session that 12 refuses: what every frame gets.
-- Assumes nothing.
use Rattle.std.proofs.Common.{Option}
use mathlib.Core.Path.{◌≡◌, refl, ◌∙◌}
use mathlib.Core.Bool.{Bool, true, false, cond}
use mathlib.Core.List.{List, [], ◌∷◌}
use Prim.Native.Nat.{ℕ}
use lib.Dec.{eqb}
use lib.ListN.{length}
use Rattle.layout.specs.Layout.{sectors_of}
use Rattle.session.specs.Session.{fresh_of}
use Rattle.session.specs.Session.{Register}
use Rattle.session.specs.declared.Session.{Session}
use Rattle.frame.specs.Command.{byte_in, command_of}
use Rattle.judge.specs.First.{check, first, ruled}
use Rattle.judge.specs.Checks.{no_card, incoherent, frame_checks}
use Rattle.judge.specs.Judge.{commanded_of, judge_of}
use Rattle.judge.specs.declared.Act.{Act}
use Rattle.judge.specs.declared.Act.TheVariants.{Refused}
use Rattle.card.specs.Trailer.{zeros}
use Rattle.card.specs.Effects.{number_of, refused_sign, image_of}
use Rattle.card.specs.Step.{refusal_of, no_session_of}
use Rattle.card.specs.declared.Sign.TheVariants.{Nothing}
use Rattle.sealed.specs.Sealed.{inner_of, unsealed}
use Rattle.edition.specs.Edition.{usage_of, wrong_size}
use Rattle.edition.specs.declared.Edition.{Edition}
use Rattle.edition.specs.declared.Edition.TheVariants.{Old, Ev1}
use Rattle.edition.specs.Edition.{Choice}
use Rattle.edition.specs.declared.CardRecord.{CardRecord}
use Rattle.either_card.specs.Nak.{nak_of}
use Rattle.either_card.specs.Personal.{read_zero, chosen, choosing}
use Rattle.either_card.specs.Either.{personal, card_act_of, sealed_card_act_of, given_for, card_answer_of, card_image_after, sealed_card_of, sealed_card_answer_of, sealed_card_image_after, card_no_session_of}
use Rattle.either_card.specs.Code.{given_of}
use Rattle.either_card.proofs.Laws.{refusal_given}
use Rattle.edition.specs.declared.Usage.{Usage}

silent_value : (e : Edition) (r : Register) (n : ℕ) → nak_of e r Nothing n ≡ 0
silent_value Old r n = refl
silent_value Ev1 r n = refl

module _ (image : List ℕ) (k : CardRecord) (s : Session) (stray : incoherent image s ≡ true) where
  abbrev refusal : Bool → Bool → ℕ
  refusal w x = cond w 11 (cond x 11 12)

  number : ℕ
  number = refusal (wrong_size k.edition (length image)) (no_card image)

  -- every frame is refused so, a 40h among them
  bare_act : (frame : List ℕ) → card_act_of image k s frame ≡ Refused number
  unfolding card_act_of choosing judge_of frame_checks first ruled number_of number
  bare_act frame =
      rw stray
      (go (wrong_size k.edition (length image)) (no_card image) (personal k s frame) k.choice (usage_of (byte_in frame 1))
      (commanded_of image s (command_of s.stage read_zero) read_zero) (commanded_of image s (command_of s.stage frame) frame))
    where
      go : (w x p : Bool) (choice : Choice) (asked : Option Usage) (read act : Act)
          → cond w (Refused 11)
          (cond p (cond (eqb (number_of (ruled (first (check 11 x ∷ check 12 true ∷ [])) read)) 0) (chosen choice asked) (Refused (number_of (ruled (first (check 11 x ∷ check 12 true ∷ [])) read))))
          (ruled (first (check 11 x ∷ check 12 true ∷ [])) act))
          ≡ Refused (refusal w x)
      go true x p choice asked read act = refl
      go false true true choice asked read act = refl
      go false true false choice asked read act = refl
      go false false true choice asked read act = refl
      go false false false choice asked read act = refl

  sealed_act : (frame : List ℕ) → sealed_card_act_of image k s frame ≡ Refused number
  unfolding sealed_card_act_of frame_checks first ruled number
  sealed_act frame = rw stray (go (wrong_size k.edition (length image)) (no_card image) (unsealed frame))
    where
      go : (w x u : Bool)
          → cond w (Refused 11) (ruled (first (check 11 x ∷ check 12 true ∷ check 14 u ∷ [])) (card_act_of image k s (inner_of frame))) ≡ Refused (refusal w x)
      go true x u = refl
      go false true u = refl
      go false false u = refl

  refused_so : (frame : List ℕ) → given_for image k s frame (Refused number) ≡ card_no_session_of k (length image)
  unfolding card_no_session_of given_of no_session_of refused_sign number no_card
  refused_so frame = go (wrong_size k.edition (length image)) (eqb (sectors_of (length image)) 0)
    where
      go : (w x : Bool)
          → given_for image k s frame (Refused (refusal w x))
          ≡ record { answer = cond w (refusal_of 11) (record { number = cond x 11 12; sign = Nothing; reply = zeros; session = fresh_of }); nak = 0; card = k }
      go true x = refusal_given image k s frame 11 refl ∙ rw (silent_value k.edition s.register 11)
      go false true = refusal_given image k s frame 11 refl ∙ rw (silent_value k.edition s.register 11)
      go false false = refusal_given image k s frame 12 refl ∙ rw (silent_value k.edition s.register 12)

  pub no_session_bare : (frame : List ℕ) → (card_answer_of image k s frame ≡ card_no_session_of k (length image)) × (card_image_after image k s frame ≡ image)
  unfolding card_answer_of card_image_after image_of
  no_session_bare frame = rw (bare_act frame) (refused_so frame, refl)

  pub no_session_sealed : (frame : List ℕ) → (sealed_card_answer_of image k s frame ≡ sealed_card_of (card_no_session_of k (length image))) × (sealed_card_image_after image k s frame ≡ image)
  unfolding sealed_card_answer_of sealed_card_image_after image_of
  no_session_sealed frame = rw (sealed_act frame, refused_so (inner_of frame)) (refl, refl)
