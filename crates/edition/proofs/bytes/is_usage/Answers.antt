-- The four in turn.
use mathlib.Core.Path.{refl}
use Rattle.edition.specs.Bytes.{is_usage}
use Rattle.edition.proofs.bytes.is_usage.Goals as goal

pub returns : goal.returns
unfolding is_usage
returns c = refl
