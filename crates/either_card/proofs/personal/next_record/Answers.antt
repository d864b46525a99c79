-- Locked by an accepted one.
use mathlib.Core.Path.{◌∙◌}
use borrow.Author.Tests.{eq-eqb, ne_eqb}
use Rattle.either_card.proofs.personal.next_record.Goals as goal

pub returns-then-n-eq0 : goal.returns-then-n-eq0
returns-then-n-eq0 c = c.locked_with.ensures ∙ rw (eq-eqb _ _ c.if-n-eq0.true)

pub returns : goal.returns
returns c = rw (ne_eqb _ _ c.if-n-eq0.false)
