-- Three sums.
use mathlib.Core.Path.{refl}
use Rattle.issue.proofs.groups.with_inverses.Goals as goal

pub returns : goal.returns
returns c = refl
