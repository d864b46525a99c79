-- The loop's invariant is `Begun`.
use mathlib.Core.Path.{refl, sym, ◌∙◌}
use lib.ListN.{length-set}
use Rattle.issue.proofs.Filling.{start, place, turn, done}
use Rattle.issue.proofs.write.fill_part.Goals as goal

pub loop-i-init : goal.loop-i-init
loop-i-init c = start c.args.info c.args.numbers.now c.args.part.now c.requires

pub bounds-part-i : goal.bounds-part-i
bounds-part-i c = place _ _ _ _ c.loop-i.invariant c.loop-i-test.true

pub loop-i-preserved : goal.loop-i-preserved
loop-i-preserved c = turn _ _ _ _ c.loop-i.invariant c.loop-i-test.true _ refl

pub shape_of-part : goal.shape_of-part
shape_of-part c = simp length-set (c.loop-i.invariant.size ∙ sym c.requires)

pub returns : goal.returns
returns c = done _ _ _ _ _ c.loop-i.invariant c.loop-i-test.false c.checksum.ensures
