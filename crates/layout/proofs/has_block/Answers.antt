-- `has_block` compares with what `blocks_of` promises.
use Rattle.layout.specs.Layout.{has_block}
use Rattle.layout.proofs.has_block.Goals as goal

pub returns : goal.returns
unfolding has_block
returns c = rw c.blocks_of.ensures
