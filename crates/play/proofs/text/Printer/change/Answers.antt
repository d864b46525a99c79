-- A line for a block that differs.
use Rattle.play.proofs.Put.{puts_nothing}
use Rattle.play.proofs.Changing.{unchanged, changed}
use Rattle.std.proofs.Common.{arith}
use Rattle.play.proofs.text.Printer.change.Goals as goal

pub returns-then-ne-clause-puts : goal.returns-then-ne-clause-puts
returns-then-ne-clause-puts c = rw (changed _ _ _ c.content.ensures c.content-now.ensures c.ne.ensures c.if-ne.true) c.block.ensures.puts

pub returns-else-ne-clause-puts : goal.returns-else-ne-clause-puts
returns-else-ne-clause-puts c = rw (unchanged _ _ _ c.content.ensures c.content-now.ensures c.ne.ensures c.if-ne.false) (puts_nothing _ (omega arith))
