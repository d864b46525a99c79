use Rattle.mend.proofs.Report.{Filling}
use Rattle.mend.proofs.all.mend_all.Given as goal

abbrev pub invariant-loop-i : goal.invariant-loop-i
invariant-loop-i l = Filling l.initial.image l.names l.image l.report l.i
