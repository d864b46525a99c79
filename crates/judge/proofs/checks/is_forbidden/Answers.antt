-- `is_forbidden` goes by the column.
use mathlib.Core.Path.{◌≡◌, refl, ◌∙◌}
use mathlib.Core.Bool.{Bool, true, false, ◌||◌}
use Rattle.judge.specs.Checks.{is_forbidden}
use Rattle.judge.proofs.checks.is_forbidden.Goals as goal

or_false : (x : Bool) → x ≡ (x || false)
or_false true = refl
or_false false = refl

pub returns-in-Read : goal.returns-in-Read
unfolding is_forbidden
returns-in-Read c = rw c.in-Read.is

pub returns-in-Write : goal.returns-in-Write
unfolding is_forbidden
returns-in-Write c = rw c.in-Write.is

pub returns-in-Increment : goal.returns-in-Increment
unfolding is_forbidden
returns-in-Increment c = or_false _ ∙ rw c.in-Increment.is

pub returns-in-Decrement : goal.returns-in-Decrement
unfolding is_forbidden
returns-in-Decrement c = or_false _ ∙ rw c.in-Decrement.is
