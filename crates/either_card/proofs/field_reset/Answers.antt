-- The old reset, and the record.
use Rattle.either_card.proofs.field_reset.Goals as goal

pub returns : goal.returns
returns c = rw c.field_reset-answer.ensures
