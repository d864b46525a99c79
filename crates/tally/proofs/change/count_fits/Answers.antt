-- From 0 to 255; below 0 the bits are large.
use Rattle.std.proofs.Common.{arith}
use Rattle.tally.proofs.Ways.{count_fits_is}
use Rattle.tally.proofs.change.count_fits.Goals as goal

pub returns : goal.returns
returns c = count_fits_is c.args.count (omega arith)
