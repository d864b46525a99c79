-- No value block, or one.
use Rattle.tally.proofs.Ways.{no_share, its_share}
use Rattle.tally.proofs.change.share_of.Goals as goal

pub returns-in_default : goal.returns-in_default
returns-in_default c = no_share _ _ c.decode.ensures c.in_default.is

pub returns : goal.returns
returns c = let v = c in
    its_share _ _ v.decode.ensures _ _ _ v.in-Some.is c.extended-sum.ensures
