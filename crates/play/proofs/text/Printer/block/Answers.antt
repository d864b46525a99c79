-- The parts of the line, one after the other.
use Rattle.play.specs.Printout.{block_line}
use Rattle.play.proofs.Put.{puts_then}
use Rattle.play.proofs.text.Printer.block.Goals as goal

pub returns-clause-puts : goal.returns-clause-puts
unfolding block_line
returns-clause-puts c = puts_then (rw c.from.ensures at c.number.ensures.puts) (puts_then c.put.ensures (puts_then c.hex.ensures.puts c.put-2.ensures))
