-- `keys_for` goes by the cases of its definition.
use Rattle.access.specs.Rights.{keys_for}
use Rattle.access.proofs.rights.keys_for.Goals as goal

pub returns-in-Read : goal.returns-in-Read
unfolding keys_for
returns-in-Read c = rw c.in-Read.is

pub returns-in-Write : goal.returns-in-Write
unfolding keys_for
returns-in-Write c = rw c.in-Write.is

pub returns-in-Increment : goal.returns-in-Increment
unfolding keys_for
returns-in-Increment c = rw c.in-Increment.is

pub returns-in-Decrement : goal.returns-in-Decrement
unfolding keys_for
returns-in-Decrement c = rw c.in-Decrement.is
