-- The fresh session of `fresh`.
use Rattle.card.proofs.field_reset.Goals as goal

pub returns : goal.returns
returns c = rw c.fresh-session.ensures
