-- Both figures are in range.
use Rattle.std.proofs.Common.{◌&&◌, ap₂}
use Rattle.tally.specs.Change.{in_range}
use Rattle.tally.proofs.change.in_range.Goals as goal

pub returns : goal.returns
unfolding in_range
returns c = ap₂ ◌&&◌ c.count_fits-count.ensures c.sum_fits-sum.ensures
