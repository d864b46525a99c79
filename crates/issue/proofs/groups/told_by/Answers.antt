-- Blocked; or the bits of the four groups.
use Rattle.issue.proofs.Ways.{all_blocked, all_told}
use Rattle.issue.proofs.groups.told_by.Goals as goal

pub returns-in_default : goal.returns-in_default
returns-in_default c = all_blocked _ _ c.bits_of.ensures c.in_default.is

pub returns : goal.returns
returns c = all_told _ _ c.bits_of.ensures _ _ _ _ c.in-Some.is c.bits_in-b.ensures c.bits_in-c.ensures c.bits_in-d.ensures
