-- The same with eighteen zeros.
use mathlib.Core.Path.{◌∙◌}
use Rattle.kept.proofs.sealing.sealed_no_session.Goals as goal

pub returns : goal.returns
returns c = c.sealed_kept.ensures ∙ rw c.no_session.ensures
