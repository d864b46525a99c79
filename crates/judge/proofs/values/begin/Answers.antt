-- `begin` goes by what the source holds.
use mathlib.Core.Path.{◌∙◌}
use Rattle.value.proofs.Blocks.{read_none, read_value}
use Rattle.judge.specs.First.{first, ruled}
use Rattle.judge.specs.Checks.{no_value}
use Rattle.judge.proofs.values.begin.Goals as goal

pub returns-in-None : goal.returns-in-None
unfolding first ruled no_value
returns-in-None c = c.refused.ensures ∙ rw (← c.content.ensures, read_none _ _ c.decode.ensures c.in-None.is)

pub returns-in-Some : goal.returns-in-Some
unfolding first ruled no_value
returns-in-Some c = rw (← c.content.ensures, (read_value _ _ c.decode.ensures _ _ c.in-Some.is).0)
