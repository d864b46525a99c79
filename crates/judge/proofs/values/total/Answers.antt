-- `total` goes by the kind.
use mathlib.Core.Path.{◌∙◌}
use Rattle.judge.specs.Judge.{total_for}
use Rattle.judge.proofs.values.total.Goals as goal

pub returns-in-Increment : goal.returns-in-Increment
unfolding total_for
returns-in-Increment c = c.plus.ensures ∙ rw c.in-Increment.is

pub returns-in-Decrement : goal.returns-in-Decrement
unfolding total_for
returns-in-Decrement c = c.minus.ensures ∙ rw c.in-Decrement.is

pub returns-in-Restore : goal.returns-in-Restore
unfolding total_for
returns-in-Restore c = rw c.in-Restore.is
