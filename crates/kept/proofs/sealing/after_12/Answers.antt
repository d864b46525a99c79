-- 14, or 29 before it.
use Rattle.kept.specs.Code.{after12}
use Rattle.kept.proofs.sealing.after_12.Goals as goal

pub returns-then-in_range : goal.returns-then-in_range
unfolding after12
returns-then-in_range c = rw (← c.in_range.ensures, c.if-in_range.true)

pub returns : goal.returns
unfolding after12
returns c = rw (← c.in_range.ensures, c.if-in_range.false)
