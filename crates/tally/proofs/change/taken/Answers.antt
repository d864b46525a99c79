-- Both differences wrap.
use Rattle.std.proofs.Common.{arith}
use Rattle.tally.proofs.Ways.{both_taken}
use Rattle.tally.proofs.change.taken.Goals as goal

pub returns : goal.returns
returns c = let a = c.args in
    record { value = both_taken a.f a.share _ _ (omega arith) (omega arith) (omega arith) (omega arith) c.wrapping_sub_u64-count.ensures.value c.wrapping_sub_u64-sum.ensures.value; count_bound = (omega arith, omega arith) }
