-- The same for frames with their checksum: the record is four lent bytes, the figures sixteen, the session twelve, the reply eighteen.
use Rattle.std.specs.Prelude.{List, ℕ, None, Option, Some}
use Rattle.card.specs.Step.{refusal_of}
use Rattle.sealed.specs.Sealed.{sealed_of}
use Rattle.record.specs.Record.{session_from}
use Rattle.edition.specs.Bytes.{found_in}
use Rattle.tally.specs.Bytes.{figures_in}
use Rattle.kept.specs.Kept.{sealed_kept_answer_of, sealed_kept_image_after}
use Rattle.kept.specs.Crossed.{Crossed, crossed}
use Rattle.edition.specs.declared.CardRecord.{CardRecord}

-- four bytes that are no record stand for no card: 11, and all comes back as it was
abbrev pub no_card_of : List ℕ → List ℕ → Crossed
no_card_of card figures = record { answer = sealed_of (refusal_of 11); nak = 0; card = card; figures = figures }

-- the answer to a frame and the image after it, by what the four bytes hold
abbrev pub answer_on : List ℕ → Option CardRecord → List ℕ → List ℕ → List ℕ → List ℕ → Crossed
answer_on card (Some k) image figures session frame = crossed (sealed_kept_answer_of image k (figures_in figures) (session_from session) frame)
answer_on card None image figures session frame = no_card_of card figures

abbrev pub image_on : Option CardRecord → List ℕ → List ℕ → List ℕ → List ℕ → List ℕ
image_on (Some k) image figures session frame = sealed_kept_image_after image k (figures_in figures) (session_from session) frame
image_on None image figures session frame = image

unfoldable pub kept_sealed_of : List ℕ → List ℕ → List ℕ → List ℕ → List ℕ → Crossed
kept_sealed_of image card figures session frame = answer_on card (found_in card) image figures session frame

unfoldable pub kept_sealed_image : List ℕ → List ℕ → List ℕ → List ℕ → List ℕ → List ℕ
kept_sealed_image image card figures session frame = image_on (found_in card) image figures session frame
