-- The bare one, which shows no data.
use mathlib.Core.Path.{◌∙◌}
use Rattle.either_card.proofs.sealing.sealed_no_session.Goals as goal

pub returns : goal.returns
returns c = c.sealed_card.ensures ∙ rw c.no_session.ensures
