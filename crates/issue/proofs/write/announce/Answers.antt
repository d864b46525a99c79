-- The trailer as it was, but for its byte 9.
use mathlib.Core.Path.{◌∙◌}
use Rattle.memory.specs.Memory.{byte_of}
use Rattle.issue.specs.Write.{announced}
use Rattle.issue.proofs.write.announce.Goals as goal

pub returns : goal.returns
unfolding announced byte_of
returns c = c.store.ensures ∙ rw (c.announcing_byte.ensures, c.content-trailer.ensures)
