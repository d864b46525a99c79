-- `group_of` asks `group_at` with one block to a group in a small sector and five in a large one.
use mathlib.Core.Path.{◌∙◌}
use borrow.Author.Tests.{lt-ltb, le-ltb}
use Rattle.layout.specs.Layout.{group_of}
use Rattle.layout.proofs.group_of.Goals as goal

pub returns-then-n-lt128 : goal.returns-then-n-lt128
unfolding group_of
returns-then-n-lt128 c = c.group_at.ensures ∙ simp (lt-ltb _ _ c.if-n-lt128.true)

pub returns-else-n-lt128 : goal.returns-else-n-lt128
unfolding group_of
returns-else-n-lt128 c = c.group_at-else-n-lt128.ensures ∙ simp (le-ltb _ _ c.if-n-lt128.false)
