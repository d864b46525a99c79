-- Demand 2: value blocks there and back, and a run whose every answer, session and image are those of the definition.
use Rattle.std.specs.Prelude.{◌≡◌, true, false, cond, List, [], ◌∷◌, ◌++◌, map, ℕ, ℤ, Some}
use Rattle.value.specs.Whole.{signed, in_range}
use Rattle.value.specs.Block.{encode_of, decode_of}
use Rattle.session.specs.declared.Session.{Session}
use Rattle.card.specs.Step.{answer_of, image_after}
use Rattle.sealed.specs.Sealed.{inner_of, unsealed, sealed_answer_of, sealed_image_after}
use Rattle.edition.specs.declared.CardRecord.{CardRecord}
use Rattle.either_card.specs.Either.{card_answer_of, card_image_after, sealed_card_of, sealed_card_answer_of, sealed_card_image_after}
use Rattle.runs.specs.Run.{State, Sent, reset, bare, sealed, answer_to, after, run_of, answers_of}

-- every value in range and every address byte, written as a value block, read back
abbrev pub ReadsBack : ℤ → ℕ → Type 0
ReadsBack value address = in_range value ≡ true → (v : ℕ) × (decode_of (encode_of value address) ≡ Some (v, address)) × (signed v ≡ value)

-- every block that reads as a value block is rewritten byte for byte
abbrev pub Rewritten : List ℕ → Type 0
Rewritten block = (v address : ℕ) → decode_of block ≡ Some (v, address) → encode_of (signed v) address ≡ block

-- any event of any run, through either entry: what comes before it fixes the state that it meets, and that fixes its answer and what it leaves
pub record EventByEvent (st : State) (past : List Sent) (event : Sent) (future : List Sent) : Type 0 where
  pub answers :
      answers_of st (past ++ (event ∷ future)) ≡ answers_of st past ++ (answer_to (run_of st past) event ∷ answers_of (run_of st (past ++ (event ∷ []))) future)
  pub left : run_of st (past ++ (event ∷ [])) ≡ after (run_of st past) event

-- past 14 a frame with its checksum gets the bare answer to the inner bytes, with its reply extended, and leaves the same image
abbrev pub AsBare : List ℕ → CardRecord → Session → List ℕ → Type 0
AsBare image k s frame =
    unsealed frame ≡ false
    → (sealed_card_answer_of image k s frame ≡ sealed_card_of (card_answer_of image k s (inner_of frame))) × (sealed_card_image_after image k s frame ≡ card_image_after image k s (inner_of frame))

-- an old card does what it did before there were editions, through either entry: its answers have no value of a NAK, and its record stays, a locked choice too
pub record AsBefore (image : List ℕ) (k : CardRecord) (s : Session) (frame : List ℕ) : Type 0 where
  pub bare_answer : card_answer_of image k s frame ≡ record { answer = answer_of image s frame; nak = 0; card = k }
  pub bare_image : card_image_after image k s frame ≡ image_after image s frame
  pub sealed_answer : sealed_card_answer_of image k s frame ≡ record { answer = sealed_answer_of image s frame; nak = 0; card = k }
  pub sealed_image : sealed_card_image_after image k s frame ≡ sealed_image_after image s frame

-- the bare event that leaves the same: the inner bytes; a refusal with 14 leaves what a field reset leaves
abbrev pub bare_of : Sent → Sent
bare_of reset = reset
bare_of (bare frame) = bare frame
bare_of (sealed frame) = cond (unsealed frame) reset (bare (inner_of frame))

-- so a run through both entries leaves what a bare run leaves
abbrev pub SameRun : Type 0
SameRun = (st : State) (events : List Sent) → run_of st events ≡ run_of st (map bare_of events)
