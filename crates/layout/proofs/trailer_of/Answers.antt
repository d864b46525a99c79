-- The ways out of `trailer_of` are the small sectors, the large ones and the sectors that no card has.
use borrow.Author.Tests.{lt-ltb, le-ltb}
use Rattle.layout.specs.Layout.{trailer_of}
use Rattle.layout.proofs.trailer_of.Goals as goal

pub returns-then-n-lt32 : goal.returns-then-n-lt32
unfolding trailer_of
returns-then-n-lt32 c = simp (lt-ltb _ _ c.if-n-lt32.true)

pub returns-then-n-lt40 : goal.returns-then-n-lt40
unfolding trailer_of
returns-then-n-lt40 c = simp (le-ltb _ _ c.if-n-lt32.false, lt-ltb _ _ c.if-n-lt40.true)

pub returns : goal.returns
unfolding trailer_of
returns c = simp (le-ltb _ _ c.if-n-lt32.false, le-ltb _ _ c.if-n-lt40.false)
