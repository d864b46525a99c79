-- The bare answer, with its reply extended.
use mathlib.Core.Path.{◌∙◌, ap}
use Rattle.sealed.specs.Sealed.{sealed_of, sealed_no_session_of}
use Rattle.sealed.proofs.no_session.Goals as goal

pub returns : goal.returns
unfolding sealed_no_session_of
returns c = c.sealed.ensures ∙ ap sealed_of c.no_session.ensures
