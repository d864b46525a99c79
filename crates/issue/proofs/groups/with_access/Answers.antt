-- Three stores.
use mathlib.Core.Path.{refl}
use Rattle.issue.specs.Groups.{with_access}
use Rattle.issue.proofs.groups.with_access.Goals as goal

pub returns : goal.returns
unfolding with_access
returns c = refl
