-- The parts of the line, one after the other.
use Rattle.play.specs.Printout.{header_line}
use Rattle.play.proofs.Put.{puts_then}
use Rattle.play.proofs.text.Printer.header.Goals as goal

pub returns-clause-puts : goal.returns-clause-puts
unfolding header_line
returns-clause-puts c = puts_then c.number.ensures.puts (puts_then c.number-2.ensures.puts c.put.ensures)
