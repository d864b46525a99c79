-- `apply` goes by what the source holds, then by the total.
use mathlib.Core.Path.{◌∙◌}
use Rattle.value.proofs.Blocks.{read_none, read_value}
use Rattle.judge.specs.First.{first, ruled}
use Rattle.judge.specs.Checks.{no_value}
use Rattle.judge.specs.Judge.{applied_of}
use Rattle.judge.proofs.values.apply.Goals as goal

pub returns-in-None : goal.returns-in-None
unfolding first ruled no_value applied_of
returns-in-None c = c.refused.ensures ∙ rw (← c.content.ensures, read_none _ _ c.decode.ensures c.in-None.is)

pub returns-in-Some : goal.returns-in-Some
unfolding first ruled no_value applied_of
returns-in-Some c = let r = read_value _ _ c.decode.ensures _ _ c.in-Some.is in
    c.load.ensures ∙ rw (c.total.ensures, c.operand_of-operand.ensures, ← c.content.ensures, r.0, ← r.1, ← r.2)
