-- The second byte of the part's first block.
use mathlib.Core.Path.{◌∙◌}
use Rattle.directory.proofs.Places.{info_first, info_second}
use Rattle.directory.proofs.info_byte.Goals as goal

pub returns-in-First : goal.returns-in-First
returns-in-First c = rw c.in-First.is (c.byte.ensures ∙ info_first _)

pub returns-in-Second : goal.returns-in-Second
returns-in-Second c = rw c.in-Second.is (c.byte-in-Second.ensures ∙ info_second _)
