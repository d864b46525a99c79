-- `allows` goes by the cases of its definition.
use Rattle.access.specs.Rights.{allows_of}
use Rattle.access.proofs.rights.allows.Goals as goal

pub returns-in-Never : goal.returns-in-Never
unfolding allows_of
returns-in-Never c = rw c.in-Never.is

pub returns-in-OnlyA : goal.returns-in-OnlyA
unfolding allows_of
returns-in-OnlyA c = rw (c.in-OnlyA.is, c.in-KeyA.is)

pub returns-in-OnlyB : goal.returns-in-OnlyB
unfolding allows_of
returns-in-OnlyB c = rw (c.in-OnlyB.is, c.in-KeyA.is)

pub returns-in-Either : goal.returns-in-Either
unfolding allows_of
returns-in-Either c = rw c.in-Either.is

pub returns-in-Never-k : goal.returns-in-Never-k
unfolding allows_of
returns-in-Never-k c = rw c.in-Never-k.is

pub returns-in-OnlyA-k : goal.returns-in-OnlyA-k
unfolding allows_of
returns-in-OnlyA-k c = rw (c.in-OnlyA-k.is, c.in-KeyB.is)

pub returns-in-OnlyB-k : goal.returns-in-OnlyB-k
unfolding allows_of
returns-in-OnlyB-k c = rw (c.in-OnlyB-k.is, c.in-KeyB.is)

pub returns-in-Either-k : goal.returns-in-Either-k
unfolding allows_of
returns-in-Either-k c = rw c.in-Either-k.is
