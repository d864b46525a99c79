-- `writable` asks `allows` for each part.
use Rattle.access.specs.Rights.{writable_of}
use Rattle.access.proofs.rights.writable.Goals as goal

pub returns : goal.returns
unfolding writable_of
returns c = rw (c.allows-b.ensures, c.allows-middle.ensures, c.allows-a.ensures, c.trailer_row-row.ensures)
