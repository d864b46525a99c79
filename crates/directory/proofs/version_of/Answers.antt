-- The byte and the sectors are handed on.
use mathlib.Core.Path.{◌∙◌}
use Rattle.directory.specs.Directory.{version_of}
use Rattle.directory.proofs.version_of.Goals as goal

pub returns : goal.returns
unfolding version_of
returns c = c.announced.ensures ∙ rw (c.byte.ensures, c.sectors_of.ensures)
