-- Past the end nothing is locked.
use Rattle.edition.specs.Bytes.{choice_by}
use lib.ListN.{get_or-eq_default}
use Rattle.script.specs.Lock.{lock_at}
use Rattle.script.proofs.lock.lock_at.Goals as goal

pub returns-then-script-at : goal.returns-then-script-at
unfolding lock_at choice_by
returns-then-script-at c = rw (get_or-eq_default c.args.script.now 0 c.if-script-at.true)
