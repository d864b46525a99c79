-- Open, or locked.
use borrow.Author.Tests.{eq-eqb, ne_eqb}
use Rattle.edition.specs.Bytes.{is_choice}
use Rattle.edition.proofs.bytes.is_choice.Goals as goal

pub returns-then-lock-eq0 : goal.returns-then-lock-eq0
unfolding is_choice
returns-then-lock-eq0 c = rw (eq-eqb _ _ c.if-lock-eq0.true)

pub returns-else-lock-eq0 : goal.returns-else-lock-eq0
unfolding is_choice
returns-else-lock-eq0 c = rw (ne_eqb _ _ c.if-lock-eq0.false, ← c.is_usage.ensures)
