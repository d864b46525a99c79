-- The old script, on an old card.
use mathlib.Core.Path.{refl, sym, ◌∙◌}
use Rattle.play.specs.Run.{reading_for}
use Rattle.play.specs.Printout.{printout_of}
use Rattle.play.proofs.Whole.{refusal_printed, finished}
use Rattle.play.proofs.play.Goals as goal

pub put_run-requires : goal.put_run-requires
unfolding reading_for
put_run-requires c = rw c.old_card.ensures (sym c.refusal_of.ensures ∙ c.in-Ok.is)

pub returns-in-Ok : goal.returns-in-Ok
unfolding reading_for printout_of
returns-in-Ok c = let p = finished _ _ _ _ _ refl (rw c.old_card.ensures at c.put_run.ensures) in record { value = p.0; out_after = p.1.0; upper_bound = p.1.1 }

pub returns-in-Err : goal.returns-in-Err
unfolding printout_of
returns-in-Err c = let p = finished _ _ _ _ _ (refusal_printed _ _ _ _ (sym c.refusal_of.ensures ∙ c.in-Err.is)) c.put_refusal.ensures in record { value = p.0; out_after = p.1.0; upper_bound = p.1.1 }
