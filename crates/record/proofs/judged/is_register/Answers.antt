-- Empty, or full.
use Rattle.record.specs.Record.{is_register, register_by}
use Rattle.record.proofs.Parts.{full_judged}
use Rattle.record.proofs.judged.is_register.Goals as goal

pub returns-then-full-eq0 : goal.returns-then-full-eq0
unfolding is_register register_by
returns-then-full-eq0 c = rw c.if-full-eq0.true

pub returns-else-full-eq0 : goal.returns-else-full-eq0
returns-else-full-eq0 c = full_judged _ _ _ c.if-full-eq0.false
