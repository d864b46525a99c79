-- 11 and 12, then what the command comes to.
use mathlib.Core.Path.{sym, ◌∙◌}
use Rattle.judge.specs.First.{first, ruled}
use Rattle.judge.specs.Checks.{incoherent, checks_of, frame_checks}
use Rattle.judge.specs.Judge.{judge_of, commanded_of, done_of}
use Rattle.judge.specs.Code.{shortened}
use Rattle.judge.proofs.Lists.{is_memory_lem}
use Rattle.judge.proofs.Shortcut.{authenticated, coded}
use Rattle.judge.proofs.judge.Goals as goal

pub perform-requires : goal.perform-requires
perform-requires c = (is_memory_lem _ c.in_default.not-Unknown c.in_default.not-Authenticate c.in_default.not-Halt, c.command_of-c.ensures)

pub returns-then-is_no_card : goal.returns-then-is_no_card
unfolding judge_of frame_checks first ruled shortened
returns-then-is_no_card c = c.refused.ensures ∙ rw (← c.is_no_card.ensures, c.if-is_no_card.true)

pub returns-in-Unknown : goal.returns-in-Unknown
unfolding judge_of frame_checks first ruled incoherent commanded_of checks_of done_of shortened
returns-in-Unknown c = c.refused-in-Unknown.ensures ∙ rw (← c.is_no_card.ensures, c.if-is_no_card.false, ← c.is_coherent.ensures, c.if-is_coherent.true, ← c.command_of-c.ensures, c.in-Unknown.is)

pub returns-in-Authenticate : goal.returns-in-Authenticate
returns-in-Authenticate c = authenticated _ _ _ _ _ _ (sym c.is_no_card.ensures ∙ c.if-is_no_card.false) (sym c.is_coherent.ensures ∙ c.if-is_coherent.true) (sym c.command_of-c.ensures ∙ c.in-Authenticate.is) c.authenticate.ensures

pub returns-in-Halt : goal.returns-in-Halt
unfolding judge_of frame_checks first ruled incoherent commanded_of checks_of done_of shortened
returns-in-Halt c = rw (← c.is_no_card.ensures, c.if-is_no_card.false, ← c.is_coherent.ensures, c.if-is_coherent.true, ← c.command_of-c.ensures, c.in-Halt.is)

pub returns-in_default : goal.returns-in_default
unfolding judge_of frame_checks first ruled incoherent
returns-in_default c = c.perform.ensures ∙ coded _ _ _ _ (is_memory_lem _ c.in_default.not-Unknown c.in_default.not-Authenticate c.in_default.not-Halt) ∙ rw (← c.is_no_card.ensures, c.if-is_no_card.false, ← c.is_coherent.ensures, c.if-is_coherent.true, ← c.command_of-c.ensures)

pub returns-else-is_coherent : goal.returns-else-is_coherent
unfolding judge_of frame_checks first ruled incoherent shortened
returns-else-is_coherent c = c.refused-else-is_coherent.ensures ∙ rw (← c.is_no_card.ensures, c.if-is_no_card.false, ← c.is_coherent.ensures, c.if-is_coherent.false)
