-- The two ways out of `sector_of` are the small and the large sectors.
use borrow.Author.Tests.{lt-ltb, le-ltb}
use Rattle.layout.specs.Layout.{sector_of}
use Rattle.layout.proofs.sector_of.Goals as goal

pub returns-then-n-lt128 : goal.returns-then-n-lt128
unfolding sector_of
returns-then-n-lt128 c = simp (lt-ltb _ _ c.if-n-lt128.true)

pub returns-else-n-lt128 : goal.returns-else-n-lt128
unfolding sector_of
returns-else-n-lt128 c = simp (le-ltb _ _ c.if-n-lt128.false)
