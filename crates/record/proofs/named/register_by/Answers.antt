-- Full, or empty.
use borrow.Author.Tests.{eq-eqb, ne_eqb}
use Rattle.record.specs.Record.{register_by}
use Rattle.record.proofs.named.register_by.Goals as goal

pub returns-then-full-eq1 : goal.returns-then-full-eq1
unfolding register_by
returns-then-full-eq1 c = rw (eq-eqb _ _ c.if-full-eq1.true)

pub returns : goal.returns
unfolding register_by
returns c = rw (ne_eqb _ _ c.if-full-eq1.false)
