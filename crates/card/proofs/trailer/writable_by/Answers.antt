-- `writable_by` goes by whether there is an authenticated sector.
use mathlib.Core.Path.{◌∙◌}
use Rattle.judge.specs.Checks.{writable_by}
use Rattle.card.proofs.trailer.writable_by.Goals as goal

pub returns-in-None : goal.returns-in-None
unfolding writable_by
returns-in-None c = rw c.in-None.is

pub returns-in-Some : goal.returns-in-Some
unfolding writable_by
returns-in-Some c = c.writable.ensures ∙ rw c.in-Some.is
