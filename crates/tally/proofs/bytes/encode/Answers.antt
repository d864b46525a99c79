-- The eight bytes of each figure.
use Rattle.tally.specs.Bytes.{figures_bytes}
use Rattle.tally.proofs.bytes.encode.Goals as goal

pub returns : goal.returns
unfolding figures_bytes
returns c = rw (c.eight-s.ensures, c.eight-c.ensures)
