-- An answer as C sees it: the session is its record of twelve bytes.
use Rattle.std.specs.Prelude.{List, ℕ}
use Rattle.record.specs.Record.{session_from}
use Rattle.card.specs.Step.{answer_of, image_after}
use Rattle.card.specs.Answers.{Answer}

-- the answer to a frame and the image after it, for a session that came as twelve bytes
abbrev pub frame_answer : List ℕ → List ℕ → List ℕ → Answer
frame_answer image bytes frame = answer_of image (session_from bytes) frame

abbrev pub frame_image : List ℕ → List ℕ → List ℕ → List ℕ
frame_image image bytes frame = image_after image (session_from bytes) frame

-- which boundary this is; a change that an old caller would notice counts one up: 2 with frames that have their checksum, 3 where an operand below zero is refused, 4 with the record of a card
abbrev pub version_of : ℕ
version_of = 4
