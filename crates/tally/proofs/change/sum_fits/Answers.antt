-- The bits moved up are compared with both ends together.
use Rattle.std.proofs.Common.{arith}
use Rattle.tally.proofs.Ways.{sum_fits_is}
use Rattle.tally.proofs.change.sum_fits.Goals as goal

pub returns : goal.returns
returns c = sum_fits_is c.args.sum _ (omega arith) c.wrapping_add_u64.ensures.value
