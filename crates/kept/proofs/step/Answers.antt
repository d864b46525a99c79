-- The act of the frame, or 11, 12 or 29 for figures outside their ranges; then what it settles, and what is left of it.
use mathlib.Core.Path.{◌∙◌}
use mathlib.Core.Logic.{inl, inr}
use Rattle.judge.specs.Code.{refusal_number}
use Rattle.kept.proofs.Laws.{step_way}
use Rattle.kept.proofs.step.Goals as goal
use Rattle.kept.proofs.step.Goals.{then-in_range, else-in_range}

pub returns : goal.returns
returns c = let a = c.args in
    let met = c.if-in_range in
    let law =
    step_way a.image.now a.k a.f a.s a.frame.now _ c.in_range.ensures met.act
    (elim met.branch [ then-in_range w ↦ inl (w.if-in_range.true, w.act-is ∙ w.judge-act.ensures) | else-in_range w ↦ inr (w.if-in_range.false, refusal_number w.early_refusal.result, w.early_refusal.ensures, w.act-is ∙ w.refused-act.ensures) ]) _ c.settled_by-settled.ensures in
    record { value = rw (c.enact-answer.ensures.value, c.lastly-last.ensures, c.figures_by-figures.ensures) law.0; image_after = c.enact-answer.ensures.image_after ∙ rw c.lastly-last.ensures law.1 }
