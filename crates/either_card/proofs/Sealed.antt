-- The ways of a frame with its checksum.
-- Assumes nothing.
use Rattle.std.proofs.Common.{Option}
use mathlib.Core.Path.{◌≡◌, refl, sym, ap}
use mathlib.Core.Bool.{Bool, true, false, cond}
use mathlib.Core.List.{List, [], ◌∷◌, ◌++◌}
use Prim.Native.Nat.{ℕ}
use lib.Dec.{eqb}
use lib.ListN.{length}
use Rattle.session.specs.declared.Session.{Session}
use Rattle.judge.specs.First.{Outcome, passes, refuses, check, first, ruled}
use Rattle.judge.specs.Checks.{no_card, incoherent, frame_checks}
use Rattle.judge.specs.Judge.{commanded_of, judge_of}
use Rattle.judge.specs.declared.Act.{Act}
use Rattle.judge.specs.declared.Act.TheVariants.{Refused}
use Rattle.card.specs.Effects.{number_of, image_of}
use Rattle.card.specs.Step.{refusal_of}
use Rattle.sealed.specs.Sealed.{inner_of, unsealed, sealed_act_of, sealed_answer_of, sealed_image_after}
use Rattle.edition.specs.Edition.{usage_of, wrong_size}
use Rattle.edition.specs.Edition.{Choice}
use Rattle.edition.specs.declared.Edition.TheVariants.{Old}
use Rattle.edition.specs.declared.CardRecord.{CardRecord}
use Rattle.frame.specs.Command.{byte_in, command_of}
use Rattle.either_card.specs.Personal.{is_personal, read_zero, choosing, chosen}
use Rattle.either_card.specs.Either.{personal, card_act_of, sealed_card_act_of, given_for, card_answer_of, card_image_after, sealed_card_of, sealed_card_answer_of, sealed_card_image_after}
use Rattle.either_card.specs.Code.{given_of}
use Rattle.either_card.proofs.Laws.{refusal_given}
use Rattle.edition.specs.declared.Usage.{Usage}

module _ (image : List ℕ) (k : CardRecord) (s : Session) (frame : List ℕ) where
  -- past 14 the act is the inner bytes' own
  pub inner_card_act : unsealed frame ≡ false → sealed_card_act_of image k s frame ≡ card_act_of image k s (inner_of frame)
  unfolding sealed_card_act_of card_act_of judge_of frame_checks choosing first ruled number_of
  inner_card_act e = rw e (outer (wrong_size k.edition (length image)))
    where
      -- 11 and 12 stand before a 40h too
      go : (x y p : Bool) (choice : Choice) (asked : Option Usage) (read act : Act)
          → ruled (first (check 11 x ∷ check 12 y ∷ check 14 false ∷ []))
          (cond p (cond (eqb (number_of (ruled (first (check 11 x ∷ check 12 y ∷ [])) read)) 0) (chosen choice asked) (Refused (number_of (ruled (first (check 11 x ∷ check 12 y ∷ [])) read))))
          (ruled (first (check 11 x ∷ check 12 y ∷ [])) act))
          ≡ cond p (cond (eqb (number_of (ruled (first (check 11 x ∷ check 12 y ∷ [])) read)) 0) (chosen choice asked) (Refused (number_of (ruled (first (check 11 x ∷ check 12 y ∷ [])) read))))
          (ruled (first (check 11 x ∷ check 12 y ∷ [])) act)
      go true y true choice asked read act = refl
      go true y false choice asked read act = refl
      go false true true choice asked read act = refl
      go false true false choice asked read act = refl
      go false false p choice asked read act = refl

      outer : (w : Bool)
          → cond w (Refused 11)
          (ruled (first (frame_checks image s ++ (check 14 false ∷ []))) (cond w (Refused 11)
          (cond (personal k s (inner_of frame)) (choosing k.choice (usage_of (byte_in (inner_of frame) 1)) (number_of (judge_of image s read_zero))) (judge_of image s (inner_of frame)))))
          ≡ cond w (Refused 11)
          (cond (personal k s (inner_of frame)) (choosing k.choice (usage_of (byte_in (inner_of frame) 1)) (number_of (judge_of image s read_zero))) (judge_of image s (inner_of frame)))
      outer true = refl
      outer false =
          go (no_card image) (incoherent image s) (personal k s (inner_of frame)) k.choice (usage_of (byte_in (inner_of frame) 1)) (commanded_of image s (command_of s.stage read_zero) read_zero)
          (commanded_of image s (command_of s.stage (inner_of frame)) (inner_of frame))

  -- the refusal of what does not pass it
  refused_card_act : (n : ℕ) → unsealed frame ≡ true
      → cond (wrong_size k.edition (length image)) (refuses 11) (first (frame_checks image s ++ (check 14 true ∷ []))) ≡ refuses n
      → (sealed_card_act_of image k s frame ≡ Refused n) × (eqb n 0 ≡ false)
  unfolding sealed_card_act_of frame_checks first ruled
  refused_card_act n e f = rw e (go (wrong_size k.edition (length image)) (no_card image) (incoherent image s) f)
    where
      number : Outcome → ℕ
      number passes = 0
      number (refuses m) = m

      go : (w x y : Bool) → cond w (refuses 11) (first (check 11 x ∷ check 12 y ∷ check 14 true ∷ [])) ≡ refuses n
          → (cond w (Refused 11) (ruled (first (check 11 x ∷ check 12 y ∷ check 14 true ∷ [])) (card_act_of image k s (inner_of frame))) ≡ Refused n) × (eqb n 0 ≡ false)
      go true x y f = let q : 11 ≡ n = ap number f in rw (← q) (refl, refl)
      go false true y f = let q : 11 ≡ n = ap number f in rw (← q) (refl, refl)
      go false false true f = let q : 12 ≡ n = ap number f in rw (← q) (refl, refl)
      go false false false f = let q : 14 ≡ n = ap number f in rw (← q) (refl, refl)

  -- the code's two ways
  pub with_seal_lem : unsealed frame ≡ false
      → (card_answer_of image k s (inner_of frame) ≡ given_for image k s (inner_of frame) (sealed_card_act_of image k s frame))
      × (card_image_after image k s (inner_of frame) ≡ sealed_card_image_after image k s frame)
  unfolding card_answer_of card_image_after sealed_card_image_after
  with_seal_lem e = rw (inner_card_act e) (refl, refl)

  pub answered_by_inner : unsealed frame ≡ false → sealed_card_answer_of image k s frame ≡ sealed_card_of (card_answer_of image k s (inner_of frame))
  unfolding sealed_card_answer_of
  answered_by_inner e = ap sealed_card_of (sym (with_seal_lem e).0)

  pub stored_by_inner : unsealed frame ≡ false → sealed_card_image_after image k s frame ≡ card_image_after image k s (inner_of frame)
  stored_by_inner e = sym (with_seal_lem e).1

  pub without_seal : (n : ℕ) → unsealed frame ≡ true
      → cond (wrong_size k.edition (length image)) (refuses 11) (first (frame_checks image s ++ (check 14 true ∷ []))) ≡ refuses n
      → (given_of k s.register (refusal_of n) ≡ given_for image k s (inner_of frame) (sealed_card_act_of image k s frame)) × (image ≡ sealed_card_image_after image k s frame)
  unfolding sealed_card_image_after image_of
  without_seal n e f =
      let r = refused_card_act n e f in
      (rw r.0 (sym (refusal_given image k s (inner_of frame) n r.1)), rw r.0)

-- a card of the old edition gets the old answer
pub old_sealed : (image : List ℕ) (k : CardRecord) (s : Session) (frame : List ℕ) → k.edition ≡ Old
    → (sealed_card_answer_of image k s frame ≡ record { answer = sealed_answer_of image s frame; nak = 0; card = k }) × (sealed_card_image_after image k s frame ≡ sealed_image_after image s frame)
unfolding sealed_card_answer_of sealed_card_image_after sealed_card_act_of sealed_card_of card_act_of given_for is_personal sealed_answer_of sealed_image_after sealed_act_of
old_sealed image k s frame e = rw e (refl, refl)

-- the code's way where the frame passes 14
pub ruleset by_inner = (answered_by_inner, stored_by_inner)
