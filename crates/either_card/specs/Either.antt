-- A card of either edition: its record beside its image, and what a frame does to both.
use Rattle.std.specs.Prelude.{Bool, cond, ◌&&◌, List, [], ◌∷◌, ◌++◌, ℕ, eqb, length}
use Rattle.session.specs.declared.Session.{Session}
use Rattle.frame.specs.Command.{byte_in}
use Rattle.judge.specs.First.{check, first, ruled}
use Rattle.judge.specs.Checks.{frame_checks}
use Rattle.judge.specs.Judge.{judge_of}
use Rattle.judge.specs.declared.Act.{Act}
use Rattle.judge.specs.declared.Act.TheVariants.{Refused}
use Rattle.card.specs.Effects.{number_of, sign_of, image_of}
use Rattle.card.specs.Step.{answered, refusal_of, reset_of, no_session_of}
use Rattle.sealed.specs.Sealed.{inner_of, unsealed, sealed_of}
use Rattle.edition.specs.Edition.{usage_of, wrong_size}
use Rattle.edition.specs.declared.CardRecord.{CardRecord}
use Rattle.either_card.specs.Nak.{nak_of}
use Rattle.either_card.specs.Personal.{is_personal, read_zero, choosing, acknowledged, locked_with}
use Rattle.either_card.specs.Answers.{CardAnswer}

-- 40h on this card
abbrev pub personal : CardRecord → Session → List ℕ → Bool
personal k s frame = is_personal k.edition s.stage frame

-- what a frame does: 11 for an EV1 of another size; then 40h; every other frame does what it does to the card of old
unfoldable pub card_act_of : List ℕ → CardRecord → Session → List ℕ → Act
card_act_of image k s frame =
    cond (wrong_size k.edition (length image)) (Refused 11)
    (cond (personal k s frame) (choosing k.choice (usage_of (byte_in frame 1)) (number_of (judge_of image s read_zero))) (judge_of image s frame))

-- with its checksum: 11, 12 and 14, then what its inner bytes do
unfoldable pub sealed_card_act_of : List ℕ → CardRecord → Session → List ℕ → Act
sealed_card_act_of image k s frame =
    cond (wrong_size k.edition (length image)) (Refused 11)
    (ruled (first (frame_checks image s ++ (check 14 (unsealed frame) ∷ []))) (card_act_of image k s (inner_of frame)))

-- the answer to an act of a frame, with its NAK's value, by the register that was handed in; and the record, which only an accepted 40h changes
unfoldable pub given_for : List ℕ → CardRecord → Session → List ℕ → Act → CardAnswer
given_for image k s frame act =
    record {
      answer = cond (personal k s frame) (acknowledged (answered image s act)) (answered image s act);
      nak = nak_of k.edition s.register (sign_of act) (number_of act);
      card = cond (personal k s frame && eqb (number_of act) 0) (locked_with k (usage_of (byte_in frame 1))) k;
    }

-- the answer to a frame, and the image after it
unfoldable pub card_answer_of : List ℕ → CardRecord → Session → List ℕ → CardAnswer
card_answer_of image k s frame = given_for image k s frame (card_act_of image k s frame)

unfoldable pub card_image_after : List ℕ → CardRecord → Session → List ℕ → List ℕ
card_image_after image k s frame = image_of image s.auth (card_act_of image k s frame) frame

-- with its checksum: the inner bytes are the frame, and a Read's reply gets its own
unfoldable pub sealed_card_of : CardAnswer → CardAnswer
sealed_card_of a = record { answer = sealed_of a.answer; nak = a.nak; card = a.card }

unfoldable pub sealed_card_answer_of : List ℕ → CardRecord → Session → List ℕ → CardAnswer
sealed_card_answer_of image k s frame = sealed_card_of (given_for image k s (inner_of frame) (sealed_card_act_of image k s frame))

unfoldable pub sealed_card_image_after : List ℕ → CardRecord → Session → List ℕ → List ℕ
sealed_card_image_after image k s frame = image_of image s.auth (sealed_card_act_of image k s frame) (inner_of frame)

-- a field reset keeps the record; so does a refusal
abbrev pub card_reset_of : CardRecord → CardAnswer
card_reset_of k = record { answer = reset_of; nak = 0; card = k }

-- the answer to any frame where there is no session to go by
unfoldable pub card_no_session_of : CardRecord → ℕ → CardAnswer
card_no_session_of k bytes = record { answer = cond (wrong_size k.edition bytes) (refusal_of 11) (no_session_of bytes); nak = 0; card = k }
