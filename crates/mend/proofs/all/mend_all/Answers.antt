-- A row more, and all rows.
use mathlib.Core.Path.{◌∙◌}
use Rattle.mend.proofs.Report.{row_put, turn, finished}
use Rattle.mend.proofs.all.mend_all.Goals as goal

pub loop-i-preserved : goal.loop-i-preserved
loop-i-preserved c = turn _ _ _ _ _ c.loop-i.invariant c.loop-i-test.true _ _ _ c.mend_block-outcome.ensures.value c.mend_block-outcome.ensures.image_after
    (row_put _ _ _ _ (c.copy_from_slice.ensures.after ∙ c.row_of.ensures))

pub returns : goal.returns
returns c = let p = finished _ _ _ _ _ c.loop-i.invariant c.loop-i-test.false in record { image_after = p.0; report_after = p.1 }
