-- A block more, and no block left.
use mathlib.Core.Path.{sym, ◌∙◌}
use Rattle.issue.proofs.Filling.{next_block, no_block}
use Rattle.issue.proofs.write.store_blocks.Goals as goal

pub loop-k-preserved : goal.loop-k-preserved
loop-k-preserved c = next_block _ c.args.bytes.now c.args.first c.loop-k.k _ _ _ c.loop-k-test.true c.sixteen.ensures c.store.ensures ∙ c.loop-k.invariant

pub returns : goal.returns
returns c = sym (no_block _ c.args.bytes.now c.args.first c.loop-k.k _ c.loop-k-test.false) ∙ c.loop-k.invariant
