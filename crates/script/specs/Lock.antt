-- An EV1's script has a third section after the events: a count of 0 or 1 and, for 1, the type that is already locked.
use Rattle.std.specs.Prelude.{cond, List, ℕ, ◌+◌, eqb, ltb, length, get_or, None, Result, Ok, Err}
use Rattle.edition.specs.Bytes.{is_usage, choice_by}
use Rattle.edition.specs.declared.Edition.TheVariants.{Ev1}
use Rattle.edition.specs.Edition.{Choice}
use Rattle.script.specs.Script.{Judged, Reading, lawful, refused, read_as, Walk, walked, stopped, body_of, left_over}
use Rattle.script.specs.declared.lock.Unlawful.{Unlawful}
use Rattle.script.specs.declared.Refusal.TheVariants.{CutShort, TooManyTypes, UnknownType}

-- the section that stands at a place, in reading order: its count is missing, or above 1; the type is missing, or unknown; then the end
unfoldable pub lock_refusal : List ℕ → ℕ → Judged
lock_refusal script at =
    cond (ltb at (length script))
    (cond (ltb 1 (get_or script at 0)) (Err TooManyTypes)
    (cond (eqb (get_or script at 0) 0) (left_over script (at + 1))
    (cond (ltb (at + 1) (length script)) (cond (is_usage (get_or script (at + 1) 0)) (left_over script (at + 2)) (Err UnknownType)) (Err CutShort))))
    (Err CutShort)

-- the choice that it names
unfoldable pub lock_at : List ℕ → ℕ → Choice
lock_at script at = choice_by (get_or script at 0) (get_or script (at + 1) 0)

-- the whole script of an EV1
unfoldable pub locked_at : List ℕ → Walk → Reading
locked_at script (walked events place) = read_as (lock_refusal script place) events
locked_at script (stopped r) = refused r

unfoldable pub ev1_reading_of : List ℕ → Reading
ev1_reading_of script = locked_at script (body_of Ev1 script)

-- the choice at the start; open where the events are not all there
unfoldable pub choice_in : List ℕ → Walk → Choice
choice_in script (walked events place) = lock_at script place
choice_in script (stopped r) = None

-- what is read of it: the choice, and of one that is refused the refusal too
unfoldable pub chosen_in : Reading → Choice → Result Choice Unlawful
chosen_in (lawful events) choice = Ok choice
chosen_in (refused r) choice = Err (record { refusal = r; choice = choice })

unfoldable pub ev1_script_of : List ℕ → Result Choice Unlawful
ev1_script_of script = chosen_in (ev1_reading_of script) (choice_in script (body_of Ev1 script))
