-- What a sealed frame gets for the record of a session, and for twelve bytes that are none.
-- Assumes nothing.
use Rattle.std.proofs.Common.{None, Some}
use mathlib.Core.Path.{◌≡◌, refl, sym, ap}
use mathlib.Core.Bool.{Bool, true, false, cond}
use mathlib.Core.List.{List}
use Prim.Native.Nat.{ℕ, ◌<◌}
use lib.ListN.{length, replicate}
use Rattle.session.specs.Session.{fresh_of, coherent_of}
use Rattle.session.specs.declared.Session.{Session}
use Rattle.judge.specs.Checks.{no_card, incoherent, frame_checks}
use Rattle.judge.specs.First.{refuses, first, ruled}
use Rattle.judge.specs.Judge.{judge_of}
use Rattle.judge.specs.declared.Act.TheVariants.{Refused}
use Rattle.card.specs.Trailer.{zeros}
use Rattle.card.specs.Effects.{number_of, sign_of, refused_sign, reply_of, session_of, image_of}
use Rattle.card.specs.Step.{answered, refusal_of, no_session_of}
use Rattle.card.specs.declared.Sign.TheVariants.{Nothing}
use Rattle.record.specs.Record.{value_bits, record_of, is_record, found_in, stray_of, session_from}
use Rattle.record.proofs.Laws.{reads_back, no_record}
use Rattle.sealed.specs.Sealed.{inner_of, sealed_act_of, sealed_reply, sealed_of, sealed_answer_of, sealed_image_after, sealed_no_session_of}
use Rattle.card.specs.Answers.{Answer}
use Rattle.chip.specs.Chip.{chip_answer, chip_image}

-- a session loses nothing as a record
pub crosses : (image : List ℕ) (s : Session) (frame : List ℕ) → value_bits s.register < 4294967296
    → (chip_answer image (record_of s) frame ≡ sealed_answer_of image s frame) × (chip_image image (record_of s) frame ≡ sealed_image_after image s frame)
crosses image s frame fits =
    (ap (λ (x : Session). sealed_answer_of image x frame) (reads_back s fits), ap (λ (x : Session). sealed_image_after image x frame) (reads_back s fits))

-- 11 where the image is none, else 12
abbrev pub stray_number : List ℕ → ℕ
stray_number image = cond (no_card image) 11 12

-- nothing on the air, zeros, the fresh session
abbrev pub silent_refusal : ℕ → Answer
silent_refusal n = record { number = n; sign = Nothing; reply = replicate 18 0; session = fresh_of }

-- no frame gets past 11 and 12 with the session that stands for such bytes, so 14 is never looked at
stray_judged : (image frame : List ℕ) → sealed_act_of image stray_of frame ≡ Refused (stray_number image)
unfolding sealed_act_of frame_checks first ruled incoherent coherent_of
stray_judged image frame = either (no_card image)
  where
    either : (b : Bool) → ruled (cond b (refuses 11) (refuses 12)) (judge_of image stray_of (inner_of frame)) ≡ Refused (cond b 11 12)
    either true = refl
    either false = refl

-- and the answer to that is silent
silent : (image : List ℕ) (s : Session) → answered image s (Refused (stray_number image)) ≡ no_session_of (length image)
unfolding answered number_of sign_of refused_sign reply_of session_of no_session_of no_card
silent image s = either (no_card image)
  where
    either : (b : Bool) → refusal_of (cond b 11 12) ≡ record { number = cond b 11 12; sign = Nothing; reply = zeros; session = fresh_of }
    either true = refl
    either false = refl

-- so that session gets what a frame gets where there is none, and nothing is done to the image
pub stray : (image frame : List ℕ) → (sealed_answer_of image stray_of frame ≡ sealed_no_session_of (length image)) × (sealed_image_after image stray_of frame ≡ image)
unfolding sealed_answer_of sealed_image_after sealed_no_session_of image_of
stray image frame = rw (stray_judged image frame) (ap sealed_of (silent image stray_of), refl)

-- twelve bytes that are no record are refused by 11 or 12, and nothing else is done
pub bad_record : (image bytes frame : List ℕ) → is_record bytes ≡ false
    → (chip_answer image bytes frame ≡ silent_refusal (stray_number image)) × (chip_image image bytes frame ≡ image)
unfolding sealed_no_session_of sealed_of sealed_reply no_session_of no_card
bad_record image bytes frame e = rw (no_record bytes e) (stray image frame)

-- what a frame gets, by what was found in the twelve bytes
module _ (image bytes frame : List ℕ) where
  pub with_session : (s : Session) → found_in bytes ≡ Some s
      → (sealed_answer_of image s frame ≡ chip_answer image bytes frame) × (sealed_image_after image s frame ≡ chip_image image bytes frame)
  unfolding session_from
  with_session s e = rw e (refl, refl)

  pub without_session : found_in bytes ≡ None
      → (sealed_no_session_of (length image) ≡ chip_answer image bytes frame) × (image ≡ chip_image image bytes frame)
  unfolding session_from
  without_session e = let refused = stray image frame in rw e (sym refused.0, sym refused.1)
