-- The refusal, and the figures as they came.
use Rattle.kept.specs.Code.{refused_kept}
use Rattle.kept.proofs.sealing.refused.Goals as goal

pub returns : goal.returns
unfolding refused_kept
returns c = rw (c.refusal-answer.ensures, c.number.ensures)
