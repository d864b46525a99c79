-- The results one after the other.
use Rattle.play.proofs.Whole.{results_kept, finished}
use Rattle.play.proofs.run.Goals as goal

pub returns-clause-end_value : goal.returns-clause-end_value
returns-clause-end_value c = (finished _ _ _ _ _ (results_kept 1 _) (rw c.old_card-card.ensures at c.kept_run.ensures.put)).0

pub returns-clause-results_after : goal.returns-clause-results_after
returns-clause-results_after c = (finished _ _ _ _ _ (results_kept 1 _) (rw c.old_card-card.ensures at c.kept_run.ensures.put)).1.0
