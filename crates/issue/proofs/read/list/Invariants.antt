use Rattle.issue.proofs.Lists.{Listed}
use Rattle.issue.proofs.read.list.Given as goal

abbrev pub invariant-loop-i : goal.invariant-loop-i
invariant-loop-i l = Listed l.image l.count l.numbers l.i
