-- What the Read is refused with, or the choice.
use mathlib.Core.Path.{◌∙◌}
use Rattle.judge.proofs.Numbers.{number_not_0}
use Rattle.either_card.specs.Personal.{choosing}
use Rattle.either_card.proofs.personal.choosing.Goals as goal

pub returns-in-Ok : goal.returns-in-Ok
unfolding choosing
returns-in-Ok c = c.chosen.ensures ∙ rw c.in-Ok.is

pub returns-in-Err : goal.returns-in-Err
unfolding choosing
returns-in-Err c = c.refused.ensures ∙ rw (c.in-Err.is, number_not_0 _)
