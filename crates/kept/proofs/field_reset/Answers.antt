-- The record's own field reset, and the figures as they came.
use Rattle.kept.proofs.field_reset.Goals as goal

pub returns : goal.returns
returns c = rw c.field_reset-answer.ensures
