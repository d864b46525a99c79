-- What a sealed frame does, by whether it passes 14.
-- Assumes nothing.
use mathlib.Core.Path.{◌≡◌, refl}
use mathlib.Core.Bool.{Bool, true, false}
use mathlib.Core.List.{List, [], ◌∷◌, ◌++◌}
use Prim.Native.Nat.{ℕ}
use Rattle.session.specs.declared.Session.{Session}
use Rattle.judge.specs.First.{refuses, check, first, ruled}
use Rattle.judge.specs.Checks.{no_card, incoherent, frame_checks}
use Rattle.judge.specs.Judge.{judge_of}
use Rattle.judge.specs.declared.Act.{Act}
use Rattle.judge.specs.declared.Act.TheVariants.{Refused}
use Rattle.card.specs.Effects.{number_of, sign_of, reply_of, session_of, image_of}
use Rattle.card.specs.Step.{answered, answer_of, image_after, refusal_of}
use Rattle.sealed.specs.Sealed.{inner_of, unsealed, sealed_act_of, sealed_image_after}

module _ (image : List ℕ) (s : Session) (frame : List ℕ) where
  -- past 14 the act is the inner bytes' own: 11 and 12 stand before it too, and say the same
  pub inner_act : unsealed frame ≡ false → sealed_act_of image s frame ≡ judge_of image s (inner_of frame)
  unfolding sealed_act_of judge_of frame_checks first ruled
  inner_act e = rw e (go (no_card image) (incoherent image s) _)
    where
      go : (x y : Bool) (act : Act)
          → ruled (first (check 11 x ∷ check 12 y ∷ check 14 false ∷ [])) (ruled (first (check 11 x ∷ check 12 y ∷ [])) act)
          ≡ ruled (first (check 11 x ∷ check 12 y ∷ [])) act
      go true y act = refl
      go false true act = refl
      go false false act = refl

  -- the refusal of what does not pass it
  pub refused_act : (n : ℕ) → unsealed frame ≡ true → first (frame_checks image s ++ (check 14 true ∷ [])) ≡ refuses n → sealed_act_of image s frame ≡ Refused n
  unfolding sealed_act_of ruled
  refused_act n e f = rw (e, f)

  -- the code's two ways
  pub with_seal_lem : unsealed frame ≡ false
      → (answer_of image s (inner_of frame) ≡ answered image s (sealed_act_of image s frame)) × (image_after image s (inner_of frame) ≡ sealed_image_after image s frame)
  unfolding answer_of image_after sealed_image_after
  with_seal_lem e = rw (inner_act e) (refl, refl)

  pub without_seal : (n : ℕ) → unsealed frame ≡ true → first (frame_checks image s ++ (check 14 true ∷ [])) ≡ refuses n
      → (refusal_of n ≡ answered image s (sealed_act_of image s frame)) × (image ≡ sealed_image_after image s frame)
  unfolding answered number_of sign_of reply_of session_of sealed_image_after image_of
  without_seal n e f = rw (refused_act n e f) (refl, refl)
