-- `may` chains what its three callees promise.
use Rattle.access.specs.Rights.{may_of}
use Rattle.access.proofs.rights.may.Goals as goal

pub returns : goal.returns
unfolding may_of
returns c = rw (← c.data_row.ensures, ← c.keys_for.ensures) c.allows.ensures
