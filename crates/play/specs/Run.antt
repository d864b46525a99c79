-- The run of a script: its events, one after the other, from a fresh session.
use Rattle.std.specs.Prelude.{cond, List, [], map, ℕ, eqb, length}
use Rattle.edition.specs.declared.Edition.{Edition}
use Rattle.edition.specs.declared.Edition.TheVariants.{Old, Ev1}
use Rattle.edition.specs.declared.CardRecord.{CardRecord}
use Rattle.script.specs.Script.{Reading, lawful, refused, reading_of, body_of}
use Rattle.script.specs.Lock.{ev1_reading_of, choice_in}
use Rattle.runs.specs.Run.{Sent, reset, bare}

-- an event of a script: an empty one is a field reset, any other a bare frame
unfoldable pub sent_of : List ℕ → Sent
sent_of event = cond (eqb (length event) 0) reset (bare event)

-- the events of a lawful reading; none of a refused one
unfoldable pub events_in : Reading → List Sent
events_in (lawful events) = map sent_of events
events_in (refused n) = []

-- the script of a card, by its edition
unfoldable pub reading_for : Edition → List ℕ → Reading
reading_for Old script = reading_of script
reading_for Ev1 script = ev1_reading_of script

unfoldable pub events_of : Edition → List ℕ → List Sent
events_of edition script = events_in (reading_for edition script)

-- the record that an EV1's script begins with
unfoldable pub ev1_card_of : List ℕ → CardRecord
ev1_card_of script = record { edition = Ev1; choice = choice_in script (body_of Ev1 script) }
