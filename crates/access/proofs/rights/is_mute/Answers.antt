-- `is_mute` is the readable key B rule.
use mathlib.Core.Path.{◌∙◌}
use Rattle.access.specs.Rights.{mute_of}
use Rattle.access.proofs.rights.is_mute.Goals as goal

pub returns-in-KeyA : goal.returns-in-KeyA
unfolding mute_of
returns-in-KeyA c = rw c.in-KeyA.is

pub returns-in-KeyB : goal.returns-in-KeyB
unfolding mute_of
returns-in-KeyB c = c.is_readable.ensures ∙ rw c.in-KeyB.is
