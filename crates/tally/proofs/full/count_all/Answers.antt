-- No block, a block more, and all blocks.
use Rattle.tally.proofs.Ways.{start, turn, finished}
use Rattle.tally.proofs.full.count_all.Goals as goal

pub loop-i-init : goal.loop-i-init
loop-i-init c = start _ _ c.blocks_of-blocks.ensures

pub loop-i-preserved : goal.loop-i-preserved
loop-i-preserved c = turn _ _ _ _ _ _ c.loop-i.invariant c.loop-i-test.true c.share_at.ensures c.added-f.ensures

pub returns : goal.returns
returns c = finished _ _ _ _ c.loop-i.invariant c.loop-i-test.false
