-- The reply in eighteen bytes, and the figures.
use Rattle.kept.specs.Kept.{sealed_kept_of}
use Rattle.kept.proofs.sealing.sealed_kept.Goals as goal

pub returns : goal.returns
unfolding sealed_kept_of
returns c = rw c.sealed_card.ensures
