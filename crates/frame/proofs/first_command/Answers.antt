-- `first_command` goes by the length.
use mathlib.Core.Path.{◌∙◌}
use borrow.Author.Tests.{eq-eqb, ne_eqb}
use Rattle.frame.specs.Command.{byte_in, first_of}
use Rattle.frame.proofs.first_command.Goals as goal

pub returns-then-n-eq8 : goal.returns-then-n-eq8
unfolding first_of byte_in
returns-then-n-eq8 c = c.eight.ensures ∙ rw (eq-eqb _ _ c.if-n-eq8.true)

pub returns-then-n-eq2 : goal.returns-then-n-eq2
unfolding first_of byte_in
returns-then-n-eq2 c = c.two.ensures ∙ rw (ne_eqb _ _ c.if-n-eq8.false, eq-eqb _ _ c.if-n-eq2.true)

pub returns : goal.returns
unfolding first_of
returns c = rw (ne_eqb _ _ c.if-n-eq8.false, ne_eqb _ _ c.if-n-eq2.false)
