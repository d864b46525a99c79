-- What a frame gets for the record of a session, and for twelve bytes that are none.
-- Assumes nothing.
use Rattle.std.proofs.Common.{None, Some}
use mathlib.Core.Path.{◌≡◌, refl, sym, ap}
use mathlib.Core.Bool.{Bool, true, false, cond}
use mathlib.Core.List.{List}
use Prim.Native.Nat.{ℕ, ◌<◌}
use lib.ListN.{length}
use Rattle.session.specs.Session.{fresh_of, coherent_of}
use Rattle.session.specs.declared.Session.{Session}
use Rattle.judge.specs.Checks.{no_card, incoherent, frame_checks}
use Rattle.judge.specs.First.{refuses, first, ruled}
use Rattle.judge.specs.Judge.{commanded_of, judge_of}
use Rattle.frame.specs.Command.{command_of}
use Rattle.judge.specs.declared.Act.TheVariants.{Refused}
use Rattle.card.specs.Trailer.{zeros}
use Rattle.card.specs.Effects.{number_of, sign_of, refused_sign, reply_of, session_of, image_of}
use Rattle.card.specs.Step.{answered, answer_of, image_after, no_session_of}
use Rattle.card.specs.Answers.{Answer}
use Rattle.card.specs.declared.Sign.TheVariants.{Nothing}
use Rattle.record.specs.Record.{value_bits, record_of, is_record, found_in, stray_of, session_from}
use Rattle.record.proofs.Laws.{reads_back, no_record}
use Rattle.edge.specs.Edge.{frame_answer, frame_image}

-- a session loses nothing as a record
pub crosses : (image : List ℕ) (s : Session) (frame : List ℕ) → value_bits s.register < 4294967296
    → (frame_answer image (record_of s) frame ≡ answer_of image s frame) × (frame_image image (record_of s) frame ≡ image_after image s frame)
crosses image s frame fits =
    (ap (λ (x : Session). answer_of image x frame) (reads_back s fits), ap (λ (x : Session). image_after image x frame) (reads_back s fits))

-- 11 where the image is none, else 12
abbrev pub stray_number : List ℕ → ℕ
stray_number image = cond (no_card image) 11 12

-- nothing on the air, zeros, the fresh session
abbrev pub silent_refusal : ℕ → Answer
silent_refusal n = record { number = n; sign = Nothing; reply = zeros; session = fresh_of }

-- no frame gets past 11 and 12 with the session that stands for such bytes
stray_judged : (image frame : List ℕ) → judge_of image stray_of frame ≡ Refused (stray_number image)
unfolding judge_of frame_checks first ruled incoherent coherent_of
stray_judged image frame = either (no_card image)
  where
    either : (b : Bool) → ruled (cond b (refuses 11) (refuses 12)) (commanded_of image stray_of (command_of stray_of.stage frame) frame) ≡ Refused (cond b 11 12)
    either true = refl
    either false = refl

silent : (image : List ℕ) (s : Session) → answered image s (Refused (stray_number image)) ≡ silent_refusal (stray_number image)
unfolding answered number_of sign_of refused_sign reply_of session_of
silent image s = either (no_card image)
  where
    either : (b : Bool) → record { number = cond b 11 12; sign = refused_sign (cond b 11 12); reply = zeros; session = fresh_of } ≡ silent_refusal (cond b 11 12)
    either true = refl
    either false = refl

-- so that session gets what a frame gets where there is none, and nothing is done to the image
pub stray : (image frame : List ℕ) → (answer_of image stray_of frame ≡ no_session_of (length image)) × (image_after image stray_of frame ≡ image)
unfolding answer_of image_after image_of no_session_of no_card
stray image frame = rw (stray_judged image frame) (silent image stray_of, refl)

-- twelve bytes that are no record are refused by 11 or 12, and nothing else is done
pub bad_record : (image bytes frame : List ℕ) → is_record bytes ≡ false
    → (frame_answer image bytes frame ≡ silent_refusal (stray_number image)) × (frame_image image bytes frame ≡ image)
unfolding no_session_of no_card
bad_record image bytes frame e = rw (no_record bytes e) (stray image frame)

-- what a frame gets, by what was found in the twelve bytes
module _ (image bytes frame : List ℕ) where
  pub with_session : (s : Session) → found_in bytes ≡ Some s
      → (answer_of image s frame ≡ frame_answer image bytes frame) × (image_after image s frame ≡ frame_image image bytes frame)
  unfolding session_from
  with_session s e = rw e (refl, refl)

  pub without_session : found_in bytes ≡ None
      → (no_session_of (length image) ≡ frame_answer image bytes frame) × (image ≡ frame_image image bytes frame)
  unfolding session_from
  without_session e = let refused = stray image frame in rw e (sym refused.0, sym refused.1)
