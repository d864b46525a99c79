-- `transfer` goes by the register.
use mathlib.Core.Path.{◌∙◌}
use Rattle.judge.specs.First.{first, ruled}
use Rattle.judge.specs.Judge.{move_of}
use Rattle.judge.proofs.deeds.transfer.Goals as goal

pub returns-in-None : goal.returns-in-None
unfolding first ruled move_of
returns-in-None c = c.refused.ensures ∙ rw c.in-None.is

pub returns-in-Some : goal.returns-in-Some
unfolding first ruled move_of
returns-in-Some c = rw c.in-Some.is
