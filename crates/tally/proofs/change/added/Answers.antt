-- Both sums wrap.
use Rattle.tally.specs.Change.{added_to}
use Rattle.tally.proofs.change.added.Goals as goal

pub returns : goal.returns
unfolding added_to
returns c = rw (c.wrapping_add_u64-count.ensures.value, c.wrapping_add_u64-sum.ensures.value)
