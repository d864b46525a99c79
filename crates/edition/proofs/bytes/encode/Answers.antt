-- Byte by byte.
use Rattle.edition.specs.Bytes.{record_bytes}
use Rattle.edition.proofs.bytes.encode.Goals as goal

pub returns : goal.returns
unfolding record_bytes
returns c = rw (← c.type_code-usage.ensures, ← c.lock_code-lock.ensures, ← c.edition_code-edition.ensures)
