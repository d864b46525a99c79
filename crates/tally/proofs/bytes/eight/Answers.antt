-- The four bytes of each half.
use Rattle.tally.proofs.bytes.eight.Goals as goal

pub returns : goal.returns
returns c = rw (c.four-high.ensures, c.four-low.ensures)
