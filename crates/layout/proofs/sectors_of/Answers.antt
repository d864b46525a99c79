-- Each way out of `sectors_of` is a line of `sectors_of`.
use borrow.Author.Tests.{eq-eqb, ne_eqb}
use Rattle.layout.specs.Layout.{sectors_of}
use Rattle.layout.proofs.sectors_of.Goals as goal

pub returns-then-bytes-eq1024 : goal.returns-then-bytes-eq1024
unfolding sectors_of
returns-then-bytes-eq1024 c = simp (eq-eqb _ _ c.if-bytes-eq1024.true)

pub returns-then-bytes-eq4096 : goal.returns-then-bytes-eq4096
unfolding sectors_of
returns-then-bytes-eq4096 c = simp (ne_eqb _ _ c.if-bytes-eq1024.false, eq-eqb _ _ c.if-bytes-eq4096.true)

pub returns : goal.returns
unfolding sectors_of
returns c = simp (ne_eqb _ _ c.if-bytes-eq1024.false, ne_eqb _ _ c.if-bytes-eq4096.false)
