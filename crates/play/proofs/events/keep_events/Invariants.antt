use Prim.Native.Nat.{◌+◌, ◌-◌}
use Rattle.play.proofs.Going.{Going}
use Rattle.play.proofs.events.keep_events.Given as goal

abbrev pub invariant-loop-i : goal.invariant-loop-i
invariant-loop-i g l = Going g.F.Form.width (g.F.Form.kept l.form) l.initial.k l.script l.initial.image l.initial.printer l.image l.printer l.k l.session l.place l.i (l.count + 1 - l.i)
