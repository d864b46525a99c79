-- What a Write or a Transfer stores; any other act settles nothing.
use mathlib.Core.Path.{◌∙◌}
use Rattle.kept.specs.Kept.{settled_by}
use Rattle.kept.proofs.Laws.{others}
use Rattle.kept.proofs.settle.settled_by.Goals as goal

pub returns-in-Stored : goal.returns-in-Stored
unfolding settled_by
returns-in-Stored c = c.settled_at.ensures ∙ rw (c.sixteen.ensures, c.in-Stored.is)

pub returns-in-Moved : goal.returns-in-Moved
unfolding settled_by
returns-in-Moved c = c.settled_at-in-Moved.ensures ∙ rw (c.encode.ensures, c.in-Moved.is)

pub returns-in_default : goal.returns-in_default
returns-in_default c = others _ _ _ _ c.in_default.not-Stored c.in_default.not-Moved
