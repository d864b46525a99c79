-- The loop's invariant is `Changing`.
use Rattle.play.proofs.Changing.{start, turn, end_lines}
use Rattle.std.proofs.Common.{arith}
use Rattle.play.proofs.text.Printer.changes.Goals as goal

pub loop-b-init : goal.loop-b-init
loop-b-init c = let p = c.requires in start _ _ _ _ p.0 p.1

pub loop-b-preserved : goal.loop-b-preserved
loop-b-preserved c = turn _ _ _ _ c.loop-b.invariant _ (omega arith) c.change.ensures.puts c.change.ensures.upper_bound

pub returns : goal.returns
returns c = end_lines _ _ _ _ c.loop-b.invariant (omega arith)
