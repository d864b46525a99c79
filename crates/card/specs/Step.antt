-- One frame and one field reset, whole.
use Rattle.std.specs.Prelude.{cond, List, ℕ, eqb}
use Rattle.layout.specs.Layout.{sectors_of}
use Rattle.session.specs.Session.{fresh_of}
use Rattle.session.specs.declared.Session.{Session}
use Rattle.judge.specs.Judge.{judge_of}
use Rattle.judge.specs.declared.Act.{Act}
use Rattle.card.specs.Trailer.{zeros}
use Rattle.card.specs.Effects.{number_of, refused_sign, sign_of, reply_of, session_of, image_of}
use Rattle.card.specs.declared.Sign.TheVariants.{Nothing}
use Rattle.card.specs.Answers.{Answer}

-- the answer to an act
unfoldable pub answered : List ℕ → Session → Act → Answer
answered image s act =
    record { number = number_of act; sign = sign_of act; reply = reply_of image act; session = session_of s act }

-- the answer of a refusal: its number and its sign, the session fresh
abbrev pub refusal_of : ℕ → Answer
refusal_of n = record { number = n; sign = refused_sign n; reply = zeros; session = fresh_of }

-- the answer to a frame, and the image after it
unfoldable pub answer_of : List ℕ → Session → List ℕ → Answer
answer_of image s frame = answered image s (judge_of image s frame)

unfoldable pub image_after : List ℕ → Session → List ℕ → List ℕ
image_after image s frame = image_of image s.auth (judge_of image s frame) frame

-- the answer to a field reset: always accepted, silent, the session fresh
abbrev pub reset_of : Answer
reset_of = record { number = 0; sign = Nothing; reply = zeros; session = fresh_of }

-- the answer to any frame where there is no session to go by: 12, or 11 where there is no card either
unfoldable pub no_session_of : ℕ → Answer
no_session_of bytes =
    record { number = cond (eqb (sectors_of bytes) 0) 11 12; sign = Nothing; reply = zeros; session = fresh_of }
