-- The parts of a result, one after the other.
use Rattle.play.specs.Results.{result_of}
use Rattle.play.proofs.Put.{puts_then}
use Rattle.play.proofs.text.Printer.result.Goals as goal

pub returns-clause-puts : goal.returns-clause-puts
unfolding result_of
returns-clause-puts c = rw (← c.sign_code.ensures.value) (puts_then c.put.ensures c.put-2.ensures)
