use Rattle.play.proofs.Changing.{Changing}
use Rattle.play.proofs.text.Printer.changes.Given as goal

abbrev pub invariant-loop-b : goal.invariant-loop-b
invariant-loop-b l = Changing l.old l.new l.initial.self l.count l.self l.b
