-- The total on the card: what holds of the count and the sum that are kept beside an image, and of a card that keeps them.
use Rattle.std.specs.Prelude.{◌≡◌, Bool, true, false, not, cond, List, [], ◌∷◌, ◌++◌, map, ◌⊎◌, ℕ, ℤ, ◌+ℤ◌, length, None, Some, Option}
use Rattle.layout.specs.Layout.{sectors_of, trailer_of}
use Rattle.layout.specs.declared.Block.{Block}
use Rattle.layout.specs.declared.Sector.{Sector}
use Rattle.memory.specs.Memory.{sixteen_of, content_of}
use Rattle.value.specs.Whole.{signed}
use Rattle.value.specs.Block.{encode_of, decode_of}
use Rattle.session.specs.Session.{Register}
use Rattle.session.specs.declared.Session.{Session}
use Rattle.frame.specs.declared.Command.TheVariants.{Unknown, Authenticate, Read, Write, Store, Begin, Apply, Transfer, Halt}
use Rattle.judge.specs.Checks.{incoherent}
use Rattle.judge.specs.declared.Act.{Act}
use Rattle.judge.specs.declared.Act.TheVariants.{Stored, Moved}
use Rattle.card.specs.declared.Sign.TheVariants.{Nak, Nothing}
use Rattle.sealed.specs.Sealed.{inner_of, unsealed}
use Rattle.edition.specs.declared.CardRecord.{CardRecord}
use Rattle.either_card.specs.Either.{card_reset_of}
use Rattle.tally.specs.Whole.{whole}
use Rattle.tally.specs.Change.{in_range}
use Rattle.tally.specs.Full.{count_of, sum_of, full_figures}
use Rattle.tally.specs.declared.change.Figures.{Figures}
use Rattle.kept.specs.Kept.{settled_at, settled_by, kept_answer_of, kept_image_after, sealed_kept_of, sealed_kept_answer_of, sealed_kept_image_after}
use Rattle.runs.specs.Run.{State, begin, Sent, reset, bare, sealed, answer_to, after, run_of, answers_of, frame_in, act_of}
use Rattle.runs.specs.Watch.{noted}
use Rattle.runs.specs.Kept.{KeptState, opening, kept_act_in, kept_answer_to, figures_upon, kept_image_upon, kept_after, kept_run_of, kept_answers_of}
use Rattle.demands.specs.Demand1.{Wanted, shared, personalize, Row, row, any_frame, command_rows, no_card_for, asked, Met, owed_for}
use Rattle.demands.specs.Demand2.{bare_of}
use Rattle.demands.specs.Demand3.{NotWritten, OwnTransfers, opened, booked}
use Rattle.demands.specs.OneWay.{RideSector, DataBlock, AtMost}

-- after any run from an opening the figures are those of an opening of the image as it is then: a full count, or 0 where no card has its size
abbrev pub FullCount : Type 0
FullCount =
    (k : CardRecord) (image : List ℕ) (events : List Sent)
    → (kept_run_of (opening k image) events).figures ≡ full_figures (kept_run_of (opening k image) events).state.image

-- of a card they are, read as whole numbers, how many value blocks there are on it then, and the sum of their values
abbrev pub TotalOnTheCard : Type 0
TotalOnTheCard =
    (k : CardRecord) (image : List ℕ) → (sectors_of (length image) ≡ 0 → ⊥) → (events : List Sent)
    → (whole (kept_run_of (opening k image) events).figures.count ≡ count_of (kept_run_of (opening k image) events).state.image)
    × (whole (kept_run_of (opening k image) events).figures.sum ≡ sum_of (kept_run_of (opening k image) events).state.image)

-- in such a run the figures cost nothing: every answer, and the state at the end, are those of the run without them.
-- So demands 2 and 3 and the ride card hold of it as they are
abbrev pub NoneLost : Type 0
NoneLost =
    (k : CardRecord) (image : List ℕ) (events : List Sent)
    → (kept_answers_of (opening k image) events ≡ answers_of (begin k image) events) × ((kept_run_of (opening k image) events).state ≡ run_of (begin k image) events)

-- and none of its frames is refused with 29
abbrev pub Never29 : Type 0
Never29 =
    (k : CardRecord) (image : List ℕ) (past : List Sent) (event : Sent)
    → (kept_answer_to (kept_run_of (opening k image) past) event).answer.number ≡ 29 → ⊥

-- demand 3 with figures: its premises are about the run without them, which has the same acts
abbrev pub Demand3Kept : Type 0
Demand3Kept =
    (k : CardRecord) (image : List ℕ) (b : Block) (v a : ℕ) → decode_of (content_of image b) ≡ Some (v, a)
    → (events : List Sent) → NotWritten b (begin k image) events → OwnTransfers b (begin k image) events
    → (w : ℕ) × (decode_of (content_of (kept_run_of (opening k image) events).state.image b) ≡ Some (w, a))
    × (signed w ≡ signed v +ℤ (noted (booked b) opened (begin k image) events).sum)

-- and the ride card
abbrev pub OneWayKept : Type 0
OneWayKept =
    (k : CardRecord) (image : List ℕ) (t : Sector) (top : ℤ) → RideSector image t → AtMost top image t
    → (events : List Sent) → NotWritten (trailer_of t) (begin k image) events → AtMost top (kept_run_of (opening k image) events).state.image t

abbrev pub NoneEverKept : Type 0
NoneEverKept =
    (k : CardRecord) (image : List ℕ) (t : Sector) → RideSector image t → ((b : Block) → DataBlock t b → decode_of (content_of image b) ≡ None)
    → (events : List Sent) → NotWritten (trailer_of t) (begin k image) events
    → (b : Block) → DataBlock t b → decode_of (content_of (kept_run_of (opening k image) events).state.image b) ≡ None

-- demand 2 with figures, from any state and figures: what comes before an event fixes what it meets, and that fixes its answer and what it leaves
pub record KeptEventByEvent (st : KeptState) (past : List Sent) (event : Sent) (future : List Sent) : Type 0 where
  pub answers :
      kept_answers_of st (past ++ (event ∷ future))
      ≡ kept_answers_of st past ++ (kept_answer_to (kept_run_of st past) event ∷ kept_answers_of (kept_run_of st (past ++ (event ∷ []))) future)
  pub left : kept_run_of st (past ++ (event ∷ [])) ≡ kept_after (kept_run_of st past) event

-- past 14 a frame with its checksum gets the bare answer to the inner bytes, with its reply extended, and leaves the same figures and image
abbrev pub AsBareKept : List ℕ → CardRecord → Figures → Session → List ℕ → Type 0
AsBareKept image k f s frame =
    unsealed frame ≡ false
    → (sealed_kept_answer_of image k f s frame ≡ sealed_kept_of (kept_answer_of image k f s (inner_of frame)))
    × (sealed_kept_image_after image k f s frame ≡ kept_image_after image k f s (inner_of frame))

-- so a run through both entries leaves what a bare run leaves, from any figures
abbrev pub KeptSameRun : Type 0
KeptSameRun = (st : KeptState) (events : List Sent) → kept_run_of st events ≡ kept_run_of st (map bare_of events)

-- what the act without figures would make of them
abbrev pub settled_in : KeptState → Sent → Option Figures
settled_in st e = settled_by st.state.image st.figures (act_of st.state e) (frame_in e)

-- an event does what it does without figures: the answer, and record, image and session afterwards; and these are the new figures
pub record AsWithout (st : KeptState) (e : Sent) : Type 0 where
  pub act : kept_act_in st e ≡ act_of st.state e
  pub answer : kept_answer_to st e ≡ answer_to st.state e
  pub left : (kept_after st e).state ≡ after st.state e
  pub settles : settled_in st e ≡ Some (figures_upon st e)

-- an event is refused by a row: the answer that it owes, and image and figures as they were
pub record Turned (st : KeptState) (e : Sent) (r : Row) : Type 0 where
  pub answer : kept_answer_to st e ≡ owed_for st.state e r
  pub image : kept_image_upon st e ≡ st.state.image
  pub figures : figures_upon st e ≡ st.figures

-- a Write or a Transfer stores
abbrev pub Stores : Act → Type 0
Stores act = ((b : Block) × (act ≡ Stored b)) ⊎ ((b : Block) × (v : ℕ) × (a : ℕ) × (act ≡ Moved b v a))

-- from figures in range an event does what it does without them; or it would have stored, and is refused with 29, since the new figures leave their ranges
abbrev pub InRange : Type 0
InRange =
    (st : KeptState) (e : Sent) → in_range st.figures ≡ true
    → AsWithout st e ⊎ (Stores (act_of st.state e) × (settled_in st e ≡ None) × Turned st e (row 29 Nothing (any_frame true)))

-- and whatever comes, figures in range stay in range
abbrev pub StaysInRange : Type 0
StaysInRange = (st : KeptState) (events : List Sent) → in_range st.figures ≡ true → in_range (kept_run_of st events).figures ≡ true

-- figures outside: 11, 12 or 29, whatever the frame and through whichever entry
abbrev pub number_outside : State → ℕ
number_outside st = cond (no_card_for st.card st.image) 11 (cond (incoherent st.image st.session) 12 29)

abbrev pub OutOfRange : Type 0
OutOfRange =
    (st : KeptState) → in_range st.figures ≡ false → (frame : List ℕ)
    → Turned st (bare frame) (row (number_outside st.state) Nothing (any_frame true)) × Turned st (sealed frame) (row (number_outside st.state) Nothing (any_frame true))

-- a field reset keeps any figures
abbrev pub ResetKeeps : Type 0
ResetKeeps =
    (st : KeptState)
    → (kept_answer_to st reset ≡ card_reset_of st.state.card) × (kept_image_upon st reset ≡ st.state.image) × (figures_upon st reset ≡ st.figures)

-- demand 1 with figures: the last row, for the second frame of a Write and for a Transfer
abbrev pub outside : Option Figures → Bool
outside (Some f) = false
outside None = true

abbrev pub moved_outside : List ℕ → Figures → Register → Block → Bool
moved_outside image f None b = false
moved_outside image f (Some (v, a)) b = outside (settled_at image f b (encode_of (signed v) a))

abbrev pub new_outside : List ℕ → Figures → Session → List ℕ → Wanted → Bool
new_outside image f s frame (shared Unknown) = false
new_outside image f s frame (shared (Authenticate b l)) = false
new_outside image f s frame (shared (Read b)) = false
new_outside image f s frame (shared (Write b)) = false
new_outside image f s frame (shared (Store b)) = outside (settled_at image f b (sixteen_of frame))
new_outside image f s frame (shared (Begin b k)) = false
new_outside image f s frame (shared (Apply b k)) = false
new_outside image f s frame (shared (Transfer b)) = moved_outside image f s.register b
new_outside image f s frame (shared Halt) = false
new_outside image f s frame (personalize code) = false

-- the table from 1 on, and 29 last of all
abbrev pub kept_rows : KeptState → List ℕ → List Row
kept_rows st frame =
    command_rows st.state.card st.state.image st.state.session frame
    ++ (row 29 Nothing (new_outside st.state.image st.figures st.state.session frame) ∷ [])

-- 11 and 12, and 29 directly after them
abbrev pub kept_early : KeptState → List Row → List Row
kept_early st rows =
    row 11 Nothing (any_frame (no_card_for st.state.card st.state.image))
    ∷ row 12 Nothing (any_frame (incoherent st.state.image st.state.session))
    ∷ row 29 Nothing (any_frame (not (in_range st.figures)))
    ∷ rows

-- the whole table for what is sent: with a checksum 14 comes next; a field reset is never refused
abbrev pub kept_table : KeptState → Sent → List Row
kept_table st reset = []
kept_table st (bare frame) = kept_early st (kept_rows st frame)
kept_table st (sealed frame) = kept_early st (row 14 Nak (any_frame (unsealed frame)) ∷ kept_rows st (inner_of frame))

pub record Demand1Kept (st : KeptState) (e : Sent) : Type 0 where
  -- a row that is met refuses, and image and figures stay as they were
  pub refuses : (r : Row) → Met r (asked st.state e) (kept_table st e) → Turned st e r
  -- and nothing else does: a number other than 0 is that of a row that is met
  pub alone : ((kept_answer_to st e).answer.number ≡ 0 → ⊥) → (r : Row) × Met r (asked st.state e) (kept_table st e) × ((kept_answer_to st e).answer.number ≡ r.number)
