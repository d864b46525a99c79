-- The parts of the line, one after the other.
use Rattle.play.specs.Printout.{refusal_line}
use Rattle.play.proofs.Put.{puts_then}
use Rattle.play.proofs.Whole.{as_number}
use Rattle.play.proofs.text.Printer.refusal.Goals as goal

pub returns : goal.returns
unfolding refusal_line
returns c = rw (← as_number c.args.refusal) (puts_then c.number.ensures.puts c.put.ensures)
