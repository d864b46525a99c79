-- `is_readable` reads the row's last column.
use Rattle.access.specs.Rights.{readable_of}
use Rattle.access.proofs.rights.is_readable.Goals as goal

pub returns : goal.returns
unfolding readable_of
returns c = rw (← c.trailer_row-row.ensures) c.is_yes.ensures
