-- `access_bytes_of` takes the three bytes as its definition does.
use Rattle.access.specs.Bits.{access_bytes_of}
use borrow.Author.Rules.{rules}
use Rattle.access.proofs.bits.access_bytes_of.Goals as goal

pub returns : goal.returns
unfolding access_bytes_of
returns c = search rules
