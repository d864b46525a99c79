-- What the bytes name, where they are a record.
use Rattle.record.specs.Record.{found_in}
use Rattle.record.proofs.decode.Goals as goal

pub returns-then-is_record : goal.returns-then-is_record
unfolding found_in
returns-then-is_record c = rw (← c.is_record.ensures, c.if-is_record.true, c.named_by.ensures)

pub returns-else-is_record : goal.returns-else-is_record
unfolding found_in
returns-else-is_record c = rw (← c.is_record.ensures, c.if-is_record.false)
