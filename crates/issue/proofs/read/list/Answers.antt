-- No number, a number more, and all numbers.
use mathlib.Core.Path.{◌∙◌}
use Rattle.issue.proofs.Lists.{start, turn, finished}
use Rattle.issue.proofs.read.list.Goals as goal

pub loop-i-init : goal.loop-i-init
loop-i-init c = start _ _ c.args.version _ c.entry_count-count.ensures c.requires

pub loop-i-preserved : goal.loop-i-preserved
loop-i-preserved c = turn _ _ _ _ c.loop-i.invariant c.loop-i-test.true _ c.entry_at-number.type_inv c.entry_at-number.ensures _ (c.copy_from_slice.ensures.after ∙ c.to_le_bytes.ensures)

pub returns : goal.returns
returns c = finished _ _ _ _ c.loop-i.invariant _ c.entry_count-count.ensures c.loop-i-test.false
