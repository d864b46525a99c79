-- The refusal of what does not pass 14.
use mathlib.Core.Path.{ap, ◌∙◌}
use Rattle.either_card.specs.Either.{sealed_card_of, sealed_card_answer_of}
use Rattle.either_card.proofs.Sealed.{without_seal}
use Rattle.either_card.proofs.sealing.sealed_step.Goals as goal

pub returns-in-None : goal.returns-in-None
unfolding sealed_card_answer_of
returns-in-None c =
    let law = without_seal _ _ _ _ _ c.in-None.ensures c.first_refusal.ensures in
    record { value = c.sealed_card-in-None.ensures ∙ ap sealed_card_of (c.refusal.ensures ∙ rw c.number.ensures law.0); image_after = law.1 }
