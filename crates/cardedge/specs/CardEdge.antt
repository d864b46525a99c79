-- A card with its record as C sees it: the record is four lent bytes, the session twelve.
use Rattle.std.specs.Prelude.{List, ℕ, None, Option, Some}
use Rattle.card.specs.Step.{refusal_of}
use Rattle.record.specs.Record.{session_from}
use Rattle.edition.specs.Bytes.{found_in}
use Rattle.either_card.specs.Either.{card_answer_of, card_image_after}
use Rattle.either_card.specs.Crossed.{Crossed, crossed}
use Rattle.edition.specs.declared.CardRecord.{CardRecord}

-- four bytes that are no record stand for no card: 11, and they come back as they were
abbrev pub no_card_of : List ℕ → Crossed
no_card_of card = record { answer = refusal_of 11; nak = 0; card = card }

-- the answer to a frame and the image after it, by what the four bytes hold
abbrev pub answer_on : List ℕ → Option CardRecord → List ℕ → List ℕ → List ℕ → Crossed
answer_on card (Some k) image session frame = crossed (card_answer_of image k (session_from session) frame)
answer_on card None image session frame = no_card_of card

abbrev pub image_on : Option CardRecord → List ℕ → List ℕ → List ℕ → List ℕ
image_on (Some k) image session frame = card_image_after image k (session_from session) frame
image_on None image session frame = image

unfoldable pub card_frame_of : List ℕ → List ℕ → List ℕ → List ℕ → Crossed
card_frame_of image card session frame = answer_on card (found_in card) image session frame

unfoldable pub card_frame_image : List ℕ → List ℕ → List ℕ → List ℕ → List ℕ
card_frame_image image card session frame = image_on (found_in card) image session frame
