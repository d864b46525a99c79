-- 11, then 12, and 14 where neither applies.
use borrow.Author.Tests.{eq-eqb, ne_eqb}
use Rattle.judge.specs.First.{first}
use Rattle.judge.specs.Checks.{no_card, incoherent, frame_checks}
use Rattle.sealed.proofs.first_refusal.Goals as goal

pub returns-then-sectors_of-eq0 : goal.returns-then-sectors_of-eq0
unfolding first frame_checks no_card
returns-then-sectors_of-eq0 c = rw (← c.sectors_of.ensures, eq-eqb _ _ c.if-sectors_of-eq0.true)

pub returns-then-is_coherent : goal.returns-then-is_coherent
unfolding first frame_checks no_card incoherent
returns-then-is_coherent c = rw (← c.sectors_of.ensures, ne_eqb _ _ c.if-sectors_of-eq0.false, ← c.is_coherent.ensures, c.if-is_coherent.true)

pub returns : goal.returns
unfolding first frame_checks no_card incoherent
returns c = rw (← c.sectors_of.ensures, ne_eqb _ _ c.if-sectors_of-eq0.false, ← c.is_coherent.ensures, c.if-is_coherent.false)
