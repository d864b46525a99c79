-- Open, or as the type says.
use mathlib.Core.Path.{◌∙◌}
use borrow.Author.Tests.{eq-eqb, ne_eqb}
use Rattle.edition.specs.Bytes.{choice_by}
use Rattle.edition.proofs.bytes.choice_by.Goals as goal

pub returns-then-lock-eq0 : goal.returns-then-lock-eq0
unfolding choice_by
returns-then-lock-eq0 c = rw (eq-eqb _ _ c.if-lock-eq0.true)

pub returns : goal.returns
unfolding choice_by
returns c = rw (ne_eqb _ _ c.if-lock-eq0.false, c.usage_of.ensures)
