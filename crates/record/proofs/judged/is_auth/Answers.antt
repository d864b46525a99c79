-- Nobody, or a key.
use Rattle.record.specs.Record.{is_auth, auth_by}
use Rattle.record.proofs.Parts.{key_judged}
use Rattle.record.proofs.judged.is_auth.Goals as goal

pub returns-then-who-eq0 : goal.returns-then-who-eq0
unfolding is_auth auth_by
returns-then-who-eq0 c = rw c.if-who-eq0.true

pub returns-else-who-eq0 : goal.returns-else-who-eq0
returns-else-who-eq0 c = key_judged _ _ c.if-who-eq0.false
