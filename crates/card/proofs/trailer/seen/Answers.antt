-- By the comparison.
use borrow.Author.Tests.{lt-ltb, le-ltb}
use Rattle.card.specs.Code.{seen_of}
use Rattle.card.proofs.trailer.seen.Goals as goal

pub returns-then-hiding-sight : goal.returns-then-hiding-sight
unfolding seen_of
returns-then-hiding-sight c = rw (lt-ltb _ _ c.if-hiding-sight.true)

pub returns-else-hiding-sight : goal.returns-else-hiding-sight
unfolding seen_of
returns-else-hiding-sight c = rw (le-ltb _ _ c.if-hiding-sight.false)
