-- `kind_column` goes by the kind.
use Rattle.judge.specs.Checks.{kind_column}
use Rattle.judge.proofs.deeds.kind_column.Goals as goal

pub returns-in-Increment : goal.returns-in-Increment
unfolding kind_column
returns-in-Increment c = rw c.in-Increment.is

pub returns-in-Decrement : goal.returns-in-Decrement
unfolding kind_column
returns-in-Decrement c = rw c.in-Decrement.is

pub returns-in-Restore : goal.returns-in-Restore
unfolding kind_column
returns-in-Restore c = rw c.in-Restore.is
