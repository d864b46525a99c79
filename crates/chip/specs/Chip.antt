-- An answer to a sealed frame as C sees it: the session is its record of twelve bytes.
use Rattle.std.specs.Prelude.{List, ℕ}
use Rattle.record.specs.Record.{session_from}
use Rattle.sealed.specs.Sealed.{sealed_answer_of, sealed_image_after}
use Rattle.card.specs.Answers.{Answer}

-- the answer to a sealed frame and the image after it, for a session that came as twelve bytes
abbrev pub chip_answer : List ℕ → List ℕ → List ℕ → Answer
chip_answer image bytes frame = sealed_answer_of image (session_from bytes) frame

abbrev pub chip_image : List ℕ → List ℕ → List ℕ → List ℕ
chip_image image bytes frame = sealed_image_after image (session_from bytes) frame
