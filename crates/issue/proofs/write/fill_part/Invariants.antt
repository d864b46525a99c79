use Rattle.issue.proofs.Filling.{Begun}
use Rattle.issue.proofs.write.fill_part.Given as goal

abbrev pub invariant-loop-i : goal.invariant-loop-i
invariant-loop-i l = Begun l.info l.numbers l.part l.i
