-- By the code.
use Rattle.edition.specs.Edition.{usage_of}
use Rattle.std.proofs.Common.{tests, rules}
use Rattle.edition.proofs.usage_of.Goals as goal

pub returns-in-0 : goal.returns-in-0
unfolding usage_of
returns-in-0 c = rw c.in-0.is

pub returns-in-64 : goal.returns-in-64
unfolding usage_of
returns-in-64 c = rw c.in-64.is

pub returns-in-32 : goal.returns-in-32
unfolding usage_of
returns-in-32 c = rw c.in-32.is

pub returns-in-96 : goal.returns-in-96
unfolding usage_of
returns-in-96 c = rw c.in-96.is

pub returns-in_default : goal.returns-in_default
unfolding usage_of
returns-in_default c = search (tests, rules)
