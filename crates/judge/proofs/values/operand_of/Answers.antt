-- The four bytes make a word as the definition does.
use Rattle.judge.proofs.values.operand_of.Goals as goal

pub returns : goal.returns
returns c = c.word.ensures
