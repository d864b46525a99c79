-- A walk meets the events of the script's definition, one by one.
-- Assumes nothing.
use mathlib.Core.Path.{◌≡◌, refl}
use mathlib.Core.Bool.{Bool, true, false, cond}
use mathlib.Core.List.{List}
use Prim.Native.Nat.{ℕ, suc, ◌+◌}
use lib.Dec.{ltb}
use lib.ListN.{length, get_or}
use Rattle.std.specs.Prelude.{Option, Some, None, Result, Ok, Err}
use Rattle.std.specs.Result.{result_and}
use Rattle.script.specs.declared.Refusal.{Refusal}
use Rattle.script.specs.declared.Refusal.TheVariants.{CutShort, EventTooLong}
use Rattle.script.specs.Script.{Judged, event_refusal, frame_at, next_at, Walk, stopped, before, onward, events_from}
use Rattle.reader.specs.declared.Event.{Event}
use Rattle.reader.specs.Reader.{found_at, part_of, bytes_of}

-- what one more event of a walk makes of what was found, with the walk over the rest
unfoldable pub read_by : List ℕ → Option (Result Event Refusal) → Walk → Walk
read_by script (Some (Ok event)) rest = before (bytes_of {E = Refusal} script (Some (Ok event))) rest
read_by script (Some (Err r)) rest = stopped r
read_by script None rest = stopped CutShort

-- an event's refusal by its three tests
abbrev by_tests : Bool → Bool → Bool → Judged
by_tests a b c = cond a (cond b (Err EventTooLong) (cond c (Err CutShort) (Ok tt))) (Err CutShort)

module _ (script : List ℕ) (at : ℕ) where
  abbrev found_by : Bool → Bool → Bool → Option (Result Event Refusal)
  found_by a b c = cond a (Some (result_and (by_tests a b c) (Ok (record { start = at + 1; count = get_or script at 0 })))) None

  pub next_event : (n : ℕ) → events_from script (suc n) at ≡ read_by script (found_at script at) (events_from script n (next_at script at))
  unfolding events_from event_refusal found_at onward read_by bytes_of part_of frame_at
  next_event n = go (ltb at (length script)) (ltb 18 (get_or script at 0)) (ltb (length script) (at + 1 + get_or script at 0)) (events_from script n (next_at script at))
    where
      go : (a b c : Bool) (rest : Walk) → onward (by_tests a b c) (before (frame_at script at) rest) ≡ read_by script (found_by a b c) rest
      go false b c rest = refl
      go true true c rest = refl
      go true false true rest = refl
      go true false false rest = refl

  -- where the walk is not stopped, the bytes of what was found are those of the event
  pub lawful_event : event_refusal script at ≡ Ok tt → bytes_of script (found_at script at) ≡ frame_at script at
  unfolding event_refusal found_at bytes_of part_of frame_at
  lawful_event = go (ltb at (length script)) (ltb 18 (get_or script at 0)) (ltb (length script) (at + 1 + get_or script at 0))
    where
      go : (a b c : Bool) → by_tests a b c ≡ Ok tt → bytes_of script (found_by a b c) ≡ frame_at script at
      go false b c e = cc
      go true true c e = cc
      go true false true e = cc
      go true false false e = refl
