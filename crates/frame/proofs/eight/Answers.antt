-- `eight` goes by the code.
use Rattle.frame.specs.Command.{eight_bytes_of}
use Rattle.std.proofs.Common.{tests, rules}
use Rattle.frame.proofs.eight.Goals as goal

pub returns-in-96 : goal.returns-in-96
unfolding eight_bytes_of
returns-in-96 c = rw c.in-96.is

pub returns-in-97 : goal.returns-in-97
unfolding eight_bytes_of
returns-in-97 c = rw c.in-97.is

pub returns-in_default : goal.returns-in_default
unfolding eight_bytes_of
returns-in_default c = search (tests, rules)
