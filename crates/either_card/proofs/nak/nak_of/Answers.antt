-- By the edition, then by the sign.
use mathlib.Core.Path.{◌∙◌}
use Rattle.either_card.proofs.nak.nak_of.Goals as goal

pub returns-in-Nak : goal.returns-in-Nak
returns-in-Nak c = c.value_of.ensures ∙ rw (c.in-Ev1.is, c.in-Nak.is)

pub returns-in-Ack : goal.returns-in-Ack
returns-in-Ack c = rw (c.in-Ev1.is, c.in-Ack.is)

pub returns-in-Data : goal.returns-in-Data
returns-in-Data c = rw (c.in-Ev1.is, c.in-Data.is)

pub returns-in-Nothing : goal.returns-in-Nothing
returns-in-Nothing c = rw (c.in-Ev1.is, c.in-Nothing.is)

pub returns-in-Old : goal.returns-in-Old
returns-in-Old c = rw c.in-Old.is
