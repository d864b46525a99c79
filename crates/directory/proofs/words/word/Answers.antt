-- The bytes of the word are the eight bytes.
use Rattle.directory.proofs.Register.{word_bytes}
use borrow.Author.Rules.{rules}
use Rattle.directory.proofs.words.word.Goals as goal

pub returns : goal.returns
returns c = word_bytes c.args.bytes (search rules) (search rules) _ c.from_be_bytes.ensures
