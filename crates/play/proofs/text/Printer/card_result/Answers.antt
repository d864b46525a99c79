-- The parts of a result, one after the other.
use Rattle.play.specs.Results.{card_result_of}
use Rattle.play.proofs.Put.{puts_then}
use Rattle.play.proofs.text.Printer.card_result.Goals as goal

pub returns-clause-puts : goal.returns-clause-puts
unfolding card_result_of
returns-clause-puts c = rw (← c.sign_code.ensures.value) (puts_then c.put.ensures c.put-2.ensures)
