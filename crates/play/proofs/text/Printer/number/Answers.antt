-- The number after the word.
use Rattle.play.proofs.Put.{puts_then}
use Rattle.play.proofs.text.Printer.number.Goals as goal

pub returns-clause-puts : goal.returns-clause-puts
returns-clause-puts c = puts_then c.put.ensures c.decimal.ensures.puts
