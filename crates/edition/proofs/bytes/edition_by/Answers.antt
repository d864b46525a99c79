-- By the code.
use borrow.Author.Tests.{eq-eqb, ne_eqb}
use Rattle.edition.specs.Bytes.{edition_by}
use Rattle.edition.proofs.bytes.edition_by.Goals as goal

pub returns-then-code-eq0 : goal.returns-then-code-eq0
unfolding edition_by
returns-then-code-eq0 c = rw (eq-eqb _ _ c.if-code-eq0.true)

pub returns : goal.returns
unfolding edition_by
returns c = rw (ne_eqb _ _ c.if-code-eq0.false)
