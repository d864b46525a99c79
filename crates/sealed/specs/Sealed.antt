-- Frames as the reader chip hands them over: the bytes of a bare frame, then their checksum, low byte first.
use Rattle.std.specs.Prelude.{Bool, not, ◌||◌, List, [], ◌∷◌, ◌++◌, ℕ, ◌-◌, ltb, length, take, drop, replicate}
use Rattle.value.specs.Block.{same}
use Rattle.session.specs.declared.Session.{Session}
use Rattle.judge.specs.First.{check, first, ruled}
use Rattle.judge.specs.Checks.{frame_checks}
use Rattle.judge.specs.Judge.{judge_of}
use Rattle.judge.specs.declared.Act.{Act}
use Rattle.card.specs.Effects.{image_of}
use Rattle.card.specs.Step.{answered, no_session_of}
use Rattle.card.specs.Answers.{Answer}
use Rattle.card.specs.declared.Sign.{Sign}
use Rattle.card.specs.declared.Sign.TheVariants.{Ack, Nak, Data, Nothing}
use Rattle.checksum.specs.Checksum.{crc_of, two_of}

-- all bytes but the last two, and those two
unfoldable pub inner_of : List ℕ → List ℕ
inner_of frame = take (length frame - 2) frame

unfoldable pub seal_in : List ℕ → List ℕ
seal_in frame = drop (length frame - 2) frame

-- 14: fewer than three bytes, or the last two are not the checksum of the others
unfoldable pub unsealed : List ℕ → Bool
unsealed frame = ltb (length frame) 3 || not (same (seal_in frame) (two_of (crc_of (inner_of frame))))

-- what a frame does: it is refused with 11, 12 or 14, or it does what its inner bytes do as a bare frame
unfoldable pub sealed_act_of : List ℕ → Session → List ℕ → Act
sealed_act_of image s frame =
    ruled (first (frame_checks image s ++ (check 14 (unsealed frame) ∷ []))) (judge_of image s (inner_of frame))

-- the eighteen reply bytes: an accepted Read, which alone puts data on the air, has its sixteen and their checksum; all else has zeros
unfoldable pub sealed_reply : Sign → List ℕ → List ℕ
sealed_reply Ack reply = replicate 18 0
sealed_reply Nak reply = replicate 18 0
sealed_reply Data reply = reply ++ two_of (crc_of reply)
sealed_reply Nothing reply = replicate 18 0

-- an answer with its reply so, and nothing else changed
unfoldable pub sealed_of : Answer → Answer
sealed_of a = record { number = a.number; sign = a.sign; reply = sealed_reply a.sign a.reply; session = a.session }

-- the answer to a frame, and the image after it
unfoldable pub sealed_answer_of : List ℕ → Session → List ℕ → Answer
sealed_answer_of image s frame = sealed_of (answered image s (sealed_act_of image s frame))

unfoldable pub sealed_image_after : List ℕ → Session → List ℕ → List ℕ
sealed_image_after image s frame = image_of image s.auth (sealed_act_of image s frame) (inner_of frame)

-- the answer to any frame where there is no session to go by: the bare one, which shows no data
unfoldable pub sealed_no_session_of : ℕ → Answer
sealed_no_session_of bytes = sealed_of (no_session_of bytes)
