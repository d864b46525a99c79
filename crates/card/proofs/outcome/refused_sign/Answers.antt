-- The four silent refusals.
use Rattle.card.specs.Effects.{refused_sign}
use Rattle.card.proofs.outcome.refused_sign.Goals as goal

pub returns-then-n : goal.returns-then-n
unfolding refused_sign
returns-then-n c = rw c.if-n.true

pub returns : goal.returns
unfolding refused_sign
returns c = rw c.if-n.false
