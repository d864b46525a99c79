-- One byte, a NAK, or the reply.
use Rattle.play.specs.Printout.{mark_of}
use Rattle.play.proofs.text.Printer.mark.Goals as goal

pub returns-in-Ack-clause-puts : goal.returns-in-Ack-clause-puts
unfolding mark_of
returns-in-Ack-clause-puts c = rw c.in-Ack.is c.put.ensures

pub returns-in-Nak-clause-puts : goal.returns-in-Nak-clause-puts
unfolding mark_of
returns-in-Nak-clause-puts c = rw c.in-Nak.is c.nak.ensures.puts

pub returns-in-Data-clause-puts : goal.returns-in-Data-clause-puts
unfolding mark_of
returns-in-Data-clause-puts c = rw c.in-Data.is c.hex.ensures.puts

pub returns-in-Nothing-clause-puts : goal.returns-in-Nothing-clause-puts
unfolding mark_of
returns-in-Nothing-clause-puts c = rw c.in-Nothing.is c.put-in-Nothing.ensures
