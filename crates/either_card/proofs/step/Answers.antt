-- The judgement once, then what the act does.
use mathlib.Core.Path.{◌∙◌}
use Rattle.card.proofs.Short.{short_image}
use Rattle.either_card.specs.Either.{card_act_of, card_answer_of, card_image_after}
use Rattle.either_card.proofs.Laws.{short_given}
use Rattle.either_card.proofs.step.Goals as goal

pub returns : goal.returns
unfolding card_answer_of card_image_after
returns c = let a = c.args in
    let act = card_act_of a.image.now a.k a.s a.frame.now in
    let j = c.judge-act.ensures in
    record { value = c.enact.ensures.value ∙ rw j (short_given a.image.now a.k a.s a.frame.now act); image_after = c.enact.ensures.image_after ∙ rw j (short_image a.image.now a.s a.frame.now act) }
