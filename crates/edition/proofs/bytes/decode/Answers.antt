-- What the bytes name, where they are a record.
use Rattle.edition.specs.Bytes.{is_card, found_in}
use Rattle.edition.proofs.bytes.decode.Goals as goal

pub returns-then-bytes-is_choice : goal.returns-then-bytes-is_choice
unfolding is_card found_in
returns-then-bytes-is_choice c = rw (← c.is_choice.ensures, c.if-bytes-is_choice.true, c.named_by.ensures)

pub returns-else-bytes-is_choice : goal.returns-else-bytes-is_choice
unfolding is_card found_in
returns-else-bytes-is_choice c = rw (← c.is_choice.ensures, c.if-bytes-is_choice.false)
