-- The last eight bytes of a block.
use mathlib.Core.Path.{◌∙◌, ap}
use Rattle.directory.specs.Checksum.{bytes_on}
use Rattle.directory.proofs.Blocks.{last_eight}
use borrow.Author.Rules.{rules}
use Rattle.directory.proofs.words.second_word.Goals as goal

pub returns : goal.returns
returns c = λ x. c.word.ensures x ∙ ap (bytes_on x) (last_eight c.args.block (search rules))
