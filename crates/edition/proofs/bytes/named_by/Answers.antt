-- Part by part.
use Rattle.edition.specs.Bytes.{named_by}
use Rattle.edition.proofs.bytes.named_by.Goals as goal

pub returns : goal.returns
unfolding named_by
returns c = rw (← c.choice_by-choice.ensures, ← c.edition_by-edition.ensures)
