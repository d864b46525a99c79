-- Two words for each figure.
use Rattle.tally.specs.Bytes.{figures_in}
use Rattle.tally.proofs.bytes.decode.Goals as goal

pub returns : goal.returns
unfolding figures_in
returns c = rw (c.joined-sum.ensures, c.joined-count.ensures, c.word-d.ensures, c.word-c.ensures, c.word-b.ensures, c.word-a.ensures)
