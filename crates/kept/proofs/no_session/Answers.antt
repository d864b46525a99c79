-- The record's own refusal, and the figures as they came.
use Rattle.kept.proofs.no_session.Goals as goal

pub returns : goal.returns
returns c = rw c.no_session-answer.ensures
