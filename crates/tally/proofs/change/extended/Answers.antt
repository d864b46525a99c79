-- Moved up by 2^31 in 32 bits, and down again in 64.
use Rattle.std.proofs.Common.{arith}
use Rattle.tally.proofs.Ways.{extended_is}
use Rattle.tally.proofs.change.extended.Goals as goal

pub returns : goal.returns
returns c = extended_is c.args.value _ (omega arith) (omega arith) c.wrapping_sub_u64.ensures.value
