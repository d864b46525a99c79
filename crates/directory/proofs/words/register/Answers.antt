-- The last word is right for every single bit, and so for every word.
use mathlib.Core.Path.{◌∙◌}
use Rattle.directory.proofs.Register.{register_right}
use borrow.Author.Rules.{rules}
use Rattle.directory.proofs.words.register.Goals as goal

pub returns : goal.returns
returns c = c.step.ensures ∙ rw (c.step-high.ensures, c.low_bits-bits.ensures) (register_right c.args.s (search rules))
