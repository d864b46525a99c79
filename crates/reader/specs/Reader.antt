-- What a walk over a script meets at a place.
use Rattle.std.specs.Prelude.{cond, List, [], ℕ, ◌+◌, ltb, leb, length, get_or, take, drop, Option, Some, None, Result, Ok, Err}
use Rattle.std.specs.Result.{result_and}
use Rattle.script.specs.Script.{event_refusal, next_at}
use Rattle.script.specs.declared.Refusal.{Refusal}
use Rattle.reader.specs.declared.Event.{Event}
use Rattle.reader.specs.declared.Step.{Step}

-- an event, where its bytes start and how many they are, or its refusal; nothing at the end
unfoldable pub found_at : List ℕ → ℕ → Option (Result Event Refusal)
found_at script at =
    cond (ltb at (length script)) (Some (result_and (event_refusal script at) (Ok (record { start = at + 1; count = get_or script at 0 })))) None

-- what was found, and where the next event stands
abbrev pub step_at : List ℕ → ℕ → Step
step_at script at = record { found = found_at script at; next = next_at script at }

-- so many bytes from a place on; none where they are not all there
unfoldable pub part_of : List ℕ → ℕ → ℕ → List ℕ
part_of script start count = cond (leb (start + count) (length script)) (take count (drop start script)) []

-- the bytes of what was found: none but for an event
unfoldable pub bytes_of : {E : Type 0} → List ℕ → Option (Result Event E) → List ℕ
bytes_of script (Some (Ok event)) = part_of script event.start event.count
bytes_of script (Some (Err r)) = []
bytes_of script None = []
