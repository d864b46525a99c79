-- No sectors means no card.
use Rattle.judge.specs.Checks.{no_card}
use Rattle.judge.proofs.checks.is_no_card.Goals as goal

pub returns : goal.returns
unfolding no_card
returns c = rw (← c.sectors_of.ensures)
