-- The refusal of what does not pass 14.
use mathlib.Core.Path.{ap, ◌∙◌}
use Rattle.kept.specs.Kept.{sealed_kept_of, sealed_kept_answer_of}
use Rattle.kept.proofs.Laws.{without_seal}
use Rattle.kept.proofs.sealing.sealed_step.Goals as goal

pub returns-in-None : goal.returns-in-None
unfolding sealed_kept_answer_of
returns-in-None c =
    let law = without_seal _ _ _ _ _ c.in-None.ensures _ (rw c.after_12.ensures at c.early_refusal.ensures) in
    record { value = c.sealed_kept-in-None.ensures ∙ ap sealed_kept_of (c.refused.ensures ∙ law.0); image_after = law.1 }
