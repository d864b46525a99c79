-- By whether the block counts.
use mathlib.Core.Path.{◌∙◌}
use Rattle.tally.specs.Full.{counts}
use Rattle.kept.specs.Kept.{settled_at}
use Rattle.kept.proofs.settle.settled_at.Goals as goal

pub returns-then-has-out : goal.returns-then-has-out
unfolding settled_at counts
returns-then-has-out c = c.after.ensures ∙ rw (c.content.ensures, ← c.has_block-has.ensures, ← c.is_trailer.ensures, c.if-has-out.true)

pub returns : goal.returns
unfolding settled_at counts
returns c = rw (← c.has_block-has.ensures, ← c.is_trailer.ensures, c.if-has-out.false)
