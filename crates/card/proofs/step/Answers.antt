-- The judgement once, then what the act does.
use mathlib.Core.Path.{◌∙◌}
use Rattle.judge.specs.Judge.{judge_of}
use Rattle.card.specs.Step.{answer_of, image_after}
use Rattle.card.proofs.Short.{short_answer, short_image}
use Rattle.card.proofs.step.Goals as goal

pub returns : goal.returns
unfolding answer_of image_after
returns c = let a = c.args in
    let act = judge_of a.image.now a.s a.frame.now in
    record { value = c.enact.ensures.value ∙ rw c.judge-act.ensures (short_answer a.image.now a.s act); image_after = c.enact.ensures.image_after ∙ rw c.judge-act.ensures (short_image a.image.now a.s a.frame.now act) }
