-- N alone, or with its value.
use Rattle.play.specs.Printout.{nak_mark}
use Rattle.play.proofs.text.Printer.nak.Goals as goal

pub returns-in-Old-clause-puts : goal.returns-in-Old-clause-puts
unfolding nak_mark
returns-in-Old-clause-puts c = rw c.in-Old.is c.put.ensures

pub returns-in-Ev1-clause-puts : goal.returns-in-Ev1-clause-puts
unfolding nak_mark
returns-in-Ev1-clause-puts c = rw c.in-Ev1.is (rw c.low_digit.ensures at c.put-in-Ev1.ensures)
