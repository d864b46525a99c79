-- The number and its sign; nothing else is left.
use Rattle.card.proofs.outcome.refusal.Goals as goal

pub returns : goal.returns
returns c = rw (c.refused_sign-sign.ensures, c.fresh-session.ensures)
