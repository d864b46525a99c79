-- Check 6, the bar of a readable key B, and the right itself.
use Rattle.judge.specs.First.{first}
use Rattle.judge.specs.Checks.{right_of}
use Rattle.judge.specs.Code.{granted}
use Rattle.judge.proofs.checks.data_rule.Goals as goal

pub returns-then-is_forbidden : goal.returns-then-is_forbidden
unfolding first granted
returns-then-is_forbidden c = rw (← c.is_forbidden.ensures, c.if-is_forbidden.true)

pub returns-then-is_mute : goal.returns-then-is_mute
unfolding first granted right_of
returns-then-is_mute c = rw (← c.is_forbidden.ensures, c.if-is_forbidden.false, ← c.is_mute.ensures, c.if-is_mute.true)

pub returns-then-may : goal.returns-then-may
unfolding first granted right_of
returns-then-may c = rw (← c.is_forbidden.ensures, c.if-is_forbidden.false, ← c.is_mute.ensures, c.if-is_mute.false, ← c.may.ensures, c.if-may.true)

pub returns : goal.returns
unfolding first granted right_of
returns c = rw (← c.is_forbidden.ensures, c.if-is_forbidden.false, ← c.is_mute.ensures, c.if-is_mute.false, ← c.may.ensures, c.if-may.false)
