-- The four ways out of `group_at` are the four groups.
use borrow.Author.Tests.{lt-ltb, le-ltb}
use Rattle.layout.specs.Layout.{group_at}
use Rattle.layout.proofs.group_at.Goals as goal

pub returns-then-place-n : goal.returns-then-place-n
unfolding group_at
returns-then-place-n c = simp (lt-ltb _ _ c.if-place-n.true)

pub returns-then-place-n-2 : goal.returns-then-place-n-2
unfolding group_at
returns-then-place-n-2 c = simp (le-ltb _ _ c.if-place-n.false, lt-ltb _ _ c.if-place-n-2.true)

pub returns-then-place-n-3 : goal.returns-then-place-n-3
unfolding group_at
returns-then-place-n-3 c = simp (le-ltb _ _ c.if-place-n.false, le-ltb _ _ c.if-place-n-2.false, lt-ltb _ _ c.if-place-n-3.true)

pub returns : goal.returns
unfolding group_at
returns c = simp (le-ltb _ _ c.if-place-n.false, le-ltb _ _ c.if-place-n-2.false, le-ltb _ _ c.if-place-n-3.false)
