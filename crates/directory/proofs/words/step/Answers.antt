-- Eight steps are right for every single bit, and so for every byte.
use borrow.Author.Rules.{rules}
use Rattle.directory.proofs.Register.{eight_steps}
use Rattle.directory.proofs.words.step.Goals as goal

pub returns : goal.returns
returns c = eight_steps c.args.t (search rules)
