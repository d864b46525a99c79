-- A fold is right for every single bit, and so for every word.
use borrow.Author.Rules.{rules}
use Rattle.directory.proofs.Register.{fold_right}
use Rattle.directory.proofs.words.fold.Goals as goal

pub returns : goal.returns
returns c = fold_right c.args.s c.args.w (search rules)
