use Rattle.tally.proofs.Ways.{Counting}
use Rattle.tally.proofs.full.count_all.Given as goal

abbrev pub invariant-loop-i : goal.invariant-loop-i
invariant-loop-i l = Counting l.image l.blocks l.f l.i
