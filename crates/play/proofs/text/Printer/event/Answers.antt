-- The parts of the line, one after the other.
use Rattle.play.specs.Printout.{event_line}
use Rattle.play.proofs.Put.{puts_then}
use Rattle.play.proofs.text.Printer.event.Goals as goal

pub returns-clause-puts : goal.returns-clause-puts
unfolding event_line
returns-clause-puts c =
    puts_then c.decimal.ensures.puts (puts_then c.put.ensures (puts_then (rw c.from.ensures at c.decimal-2.ensures.puts) (puts_then c.put-2.ensures (puts_then c.mark.ensures.puts c.put-3.ensures))))
