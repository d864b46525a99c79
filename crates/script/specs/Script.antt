-- The script format: an image and the events to play on it, each section after its count. It is judged as a whole, in reading order.
use Rattle.std.specs.Prelude.{Bool, cond, ◌||◌, List, [], ◌∷◌, ℕ, zero, suc, ◌+◌, ◌*◌, eqb, ltb, leb, length, get_or, take, drop, Result, Ok, Err}
use Rattle.layout.specs.Layout.{sectors_of}
use Rattle.edition.specs.Edition.{wrong_size}
use Rattle.edition.specs.declared.Edition.{Edition}
use Rattle.edition.specs.declared.Edition.TheVariants.{Old}
use Rattle.script.specs.declared.Refusal.{Refusal}
use Rattle.script.specs.declared.Refusal.TheVariants.{CutShort, NoSuchSize, TooManyEvents, EventTooLong, LeftOver, TooManyTypes, UnknownType}

-- the number of a refusal in the printout
unfoldable pub number_of : Refusal → ℕ
number_of CutShort = 20
number_of NoSuchSize = 21
number_of TooManyEvents = 22
number_of EventTooLong = 23
number_of LeftOver = 24
number_of TooManyTypes = 25
number_of UnknownType = 26

-- a part of a script is in order, or refused
abbrev pub Judged : Type 0
Judged = Result (Unit {0}) Refusal

-- what reading gives: the events, an empty one being a field reset; or the refusal that was met first
pub data Reading : Type 0 where
  lawful : List (List ℕ) → Reading
  refused : Refusal → Reading

-- whether a reading is lawful
unfoldable pub refusal_in : Reading → Judged
refusal_in (lawful events) = Ok tt
refusal_in (refused r) = Err r

-- the events, if what comes after them is in order
unfoldable pub read_as : Judged → List (List ℕ) → Reading
read_as (Ok u) events = lawful events
read_as (Err r) events = refused r

-- a count of two bytes, low byte first; a byte past the end is 0
unfoldable pub count_at : List ℕ → ℕ → ℕ
count_at script at = get_or script at 0 + 256 * get_or script (at + 1) 0

-- where things stand: the image after its count, the count of events after the image, the events after that
unfoldable pub image_size : List ℕ → ℕ
image_size script = count_at script 0

unfoldable pub image_part : List ℕ → List ℕ
image_part script = cond (leb (2 + image_size script) (length script)) (take (image_size script) (drop 2 script)) []

unfoldable pub event_count : List ℕ → ℕ
event_count script = count_at script (2 + image_size script)

unfoldable pub events_start : List ℕ → ℕ
events_start script = 4 + image_size script

-- the event whose count stands at a place, none where its bytes are not all there; and where the next one stands
unfoldable pub frame_at : List ℕ → ℕ → List ℕ
frame_at script at =
    cond (leb (at + 1 + get_or script at 0) (length script)) (take (get_or script at 0) (drop (at + 1) script)) []

unfoldable pub next_at : List ℕ → ℕ → ℕ
next_at script at = cond (ltb at (length script)) (at + 1 + get_or script at 0) at

-- the event whose count stands at a place: something is missing, or it claims more than eighteen bytes
unfoldable pub event_refusal : List ℕ → ℕ → Judged
event_refusal script at =
    cond (ltb at (length script))
    (cond (ltb 18 (get_or script at 0)) (Err EventTooLong) (cond (ltb (length script) (at + 1 + get_or script at 0)) (Err CutShort) (Ok tt)))
    (Err CutShort)

-- a walk over events: the events, and the place after the last one; or the refusal that was met first
pub data Walk : Type 0 where
  walked : List (List ℕ) → ℕ → Walk
  stopped : Refusal → Walk

-- one event more in front
unfoldable pub before : List ℕ → Walk → Walk
before event (walked events place) = walked (event ∷ events) place
before event (stopped r) = stopped r

-- a walk goes on, if what it has met is in order
unfoldable pub onward : Judged → Walk → Walk
onward (Ok u) w = w
onward (Err r) w = stopped r

-- n events from a place on
unfoldable pub events_from : List ℕ → ℕ → ℕ → Walk
events_from script zero at = walked [] at
events_from script (suc n) at =
    onward (event_refusal script at) (before (frame_at script at) (events_from script n (next_at script at)))

-- the script up to the last event, for a card of some edition: something is missing, no such card has an image of that size, or more than a thousand events are claimed
unfoldable pub no_size : Edition → ℕ → Bool
no_size edition size = wrong_size edition size || eqb (sectors_of size) 0

unfoldable pub body_of : Edition → List ℕ → Walk
body_of edition script =
    cond (ltb (length script) 2) (stopped CutShort)
    (cond (no_size edition (image_size script)) (stopped NoSuchSize)
    (cond (ltb (length script) (2 + image_size script)) (stopped CutShort)
    (cond (ltb (length script) (4 + image_size script)) (stopped CutShort)
    (cond (ltb 1000 (event_count script)) (stopped TooManyEvents)
    (events_from script (event_count script) (events_start script))))))

-- nothing is left over from a place on
unfoldable pub left_over : List ℕ → ℕ → Judged
left_over script at = cond (ltb at (length script)) (Err LeftOver) (Ok tt)

-- and then the end
unfoldable pub ended_at : List ℕ → Walk → Reading
ended_at script (walked events place) = read_as (left_over script place) events
ended_at script (stopped r) = refused r

-- the whole script of an old card
unfoldable pub reading_of : List ℕ → Reading
reading_of script = ended_at script (body_of Old script)

-- what is left of a walk when its events are not kept; and of that whether it was stopped
unfoldable pub place_of : Walk → Result ℕ Refusal
place_of (walked events place) = Ok place
place_of (stopped r) = Err r

unfoldable pub stop_in : Walk → Judged
stop_in (walked events place) = Ok tt
stop_in (stopped r) = Err r

-- the events of a walk; none of one that was stopped
unfoldable pub events_on : Walk → List (List ℕ)
events_on (walked events place) = events
events_on (stopped r) = []
