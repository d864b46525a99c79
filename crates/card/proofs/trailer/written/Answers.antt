-- The parts by the bits of the trailer.
use mathlib.Core.Path.{◌∙◌}
use Rattle.card.proofs.trailer.written.Goals as goal

pub returns : goal.returns
returns c = c.mixed.ensures ∙ rw c.writable_by.ensures
