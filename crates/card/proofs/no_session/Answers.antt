-- Neither number puts anything on the air.
use borrow.Author.Tests.{eq-eqb, ne_eqb}
use Rattle.card.specs.Effects.{refused_sign}
use Rattle.card.specs.Step.{no_session_of}
use Rattle.card.proofs.no_session.Goals as goal

pub returns-then-sectors_of-eq0 : goal.returns-then-sectors_of-eq0
unfolding no_session_of refused_sign
returns-then-sectors_of-eq0 c = rw (c.refusal.ensures, ← c.sectors_of.ensures, eq-eqb _ _ c.if-sectors_of-eq0.true)

pub returns-else-sectors_of-eq0 : goal.returns-else-sectors_of-eq0
unfolding no_session_of refused_sign
returns-else-sectors_of-eq0 c = rw (c.refusal-else-sectors_of-eq0.ensures, ← c.sectors_of.ensures, ne_eqb _ _ c.if-sectors_of-eq0.false)
