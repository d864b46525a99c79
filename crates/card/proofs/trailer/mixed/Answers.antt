-- Each part from the new bytes or the old.
use mathlib.Core.Path.{◌∙◌}
use Rattle.card.specs.Trailer.{mixed_of}
use Rattle.card.proofs.trailer.mixed.Goals as goal

pub returns : goal.returns
unfolding mixed_of
returns c = c.join.ensures ∙ rw (c.choose-a.ensures, c.choose-bits.ensures, c.choose-b.ensures)
