-- `read_rule` goes by the bar.

use Rattle.judge.proofs.checks.read_rule.Goals as goal

pub returns-then-mute : goal.returns-then-mute
returns-then-mute c = rw c.if-mute.true

pub returns : goal.returns
returns c = rw c.if-mute.false
