-- Nothing awaited, or a second frame.
use Rattle.record.specs.Record.{is_stage, stage_by}
use Rattle.record.proofs.Parts.{second_judged}
use Rattle.record.proofs.judged.is_stage.Goals as goal

pub returns-then-code-eq0 : goal.returns-then-code-eq0
unfolding is_stage stage_by
returns-then-code-eq0 c = rw c.if-code-eq0.true

pub returns-else-code-eq0 : goal.returns-else-code-eq0
returns-else-code-eq0 c = second_judged _ _ c.if-code-eq0.false
