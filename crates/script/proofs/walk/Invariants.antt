use mathlib.Core.Path.{◌≡◌}
use Prim.Native.Nat.{◌-◌}
use Rattle.script.specs.Script.{events_from, place_of}
use Rattle.script.proofs.walk.Given as goal

abbrev pub invariant-loop : goal.invariant-loop
invariant-loop l = place_of (events_from l.script (l.count - l.counter) l.at) ≡ place_of (events_from l.script l.count l.start)
