-- A run: what a reader sends, one event after the other, what is answered, and what the card keeps.
use Rattle.std.specs.Prelude.{List, [], ◌∷◌, ℕ}
use Rattle.session.specs.Session.{fresh_of}
use Rattle.session.specs.declared.Session.{Session}
use Rattle.judge.specs.declared.Act.{Act}
use Rattle.judge.specs.declared.Act.TheVariants.{Halted}
use Rattle.card.specs.Effects.{session_of, image_of}
use Rattle.sealed.specs.Sealed.{inner_of}
use Rattle.edition.specs.declared.CardRecord.{CardRecord}
use Rattle.either_card.specs.Either.{card_act_of, sealed_card_act_of, card_answer_of, card_image_after, sealed_card_answer_of, sealed_card_image_after, card_reset_of}
use Rattle.either_card.specs.Answers.{CardAnswer}

-- what lasts from one event to the next
pub record State : Type 0 where
  pub card : CardRecord
  pub image : List ℕ
  pub session : Session

-- a card with its record and its image, and a fresh session
abbrev pub begin : CardRecord → List ℕ → State
begin k image = record { card = k; image = image; session = fresh_of }

-- what a reader sends: a field reset, a bare frame, or a frame with its checksum
pub data Sent : Type 0 where
  reset : Sent
  bare : List ℕ → Sent
  sealed : List ℕ → Sent

-- the answer to an event
unfoldable pub answer_to : State → Sent → CardAnswer
answer_to st reset = card_reset_of st.card
answer_to st (bare frame) = card_answer_of st.image st.card st.session frame
answer_to st (sealed frame) = sealed_card_answer_of st.image st.card st.session frame

-- the image after it; the record and the session are those of the answer
unfoldable pub image_upon : State → Sent → List ℕ
image_upon st reset = st.image
image_upon st (bare frame) = card_image_after st.image st.card st.session frame
image_upon st (sealed frame) = sealed_card_image_after st.image st.card st.session frame

unfoldable pub after : State → Sent → State
after st e = record { card = (answer_to st e).card; image = image_upon st e; session = (answer_to st e).answer.session }

-- the run: the state after some events, and the answers to them
unfoldable pub run_of : State → List Sent → State
run_of st [] = st
run_of st (e ∷ es) = run_of (after st e) es

unfoldable pub answers_of : State → List Sent → List CardAnswer
answers_of st [] = []
answers_of st (e ∷ es) = answer_to st e ∷ answers_of (after st e) es

-- the bytes that count as the frame of an event, and its act; a field reset does what a Halt does
abbrev pub frame_in : Sent → List ℕ
frame_in reset = []
frame_in (bare frame) = frame
frame_in (sealed frame) = inner_of frame

unfoldable pub act_of : State → Sent → Act
act_of st reset = Halted
act_of st (bare frame) = card_act_of st.image st.card st.session frame
act_of st (sealed frame) = sealed_card_act_of st.image st.card st.session frame

-- what an act makes of image and session; the record is then this one
abbrev pub acted : CardRecord → State → List ℕ → Act → State
acted k st frame act = record { card = k; image = image_of st.image st.session.auth act frame; session = session_of st.session act }
