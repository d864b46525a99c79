-- By how the walk ended, and by the section after it.
use mathlib.Core.Path.{sym, ◌∙◌}
use Rattle.script.specs.Lock.{ev1_reading_of, ev1_script_of}
use Rattle.script.proofs.Ways.{locked_early, locked_late, locked}
use Rattle.script.proofs.lock.ev1_script.Goals as goal

pub returns-in-Err : goal.returns-in-Err
unfolding ev1_script_of ev1_reading_of
returns-in-Err c = locked_early _ _ _ (sym c.body.ensures ∙ c.in-Err.is)

pub returns-in-Err-lock_refusal : goal.returns-in-Err-lock_refusal
unfolding ev1_script_of ev1_reading_of
returns-in-Err-lock_refusal c =
    rw c.lock_at-choice.ensures (locked_late _ _ _ _ (sym c.body.ensures ∙ c.in-Ok.is) (sym c.lock_refusal.ensures ∙ c.in-Err-lock_refusal.is))

pub returns-in-Ok-lock_refusal : goal.returns-in-Ok-lock_refusal
unfolding ev1_script_of ev1_reading_of
returns-in-Ok-lock_refusal c =
    rw c.lock_at-choice.ensures (locked _ _ _ (sym c.body.ensures ∙ c.in-Ok.is) (sym c.lock_refusal.ensures ∙ c.in-Ok-lock_refusal.is))
