-- Each of the four is below 8.
use mathlib.Core.Path.{refl}
use Rattle.issue.specs.Groups.{are_bits}
use Rattle.issue.proofs.groups.are_bits.Goals as goal

pub returns : goal.returns
unfolding are_bits
returns c = refl
