-- What the card does; an answer to a 40h is acknowledged.
use mathlib.Core.Path.{◌∙◌}
use Rattle.either_card.proofs.Laws.{personal_given, plain_given}
use Rattle.either_card.proofs.enact.Goals as goal

pub returns-then-is_personal : goal.returns-then-is_personal
returns-then-is_personal c = let a = c.given-a.ensures in
    record { value = c.acknowledged.ensures ∙ rw (c.byte.ensures, a, c.enact.ensures.value) (personal_given _ _ _ _ _ _ c.is_personal.ensures c.if-is_personal.true); image_after = c.enact.ensures.image_after }

pub returns : goal.returns
returns c =
    record { value = c.given-a.ensures ∙ rw c.enact.ensures.value (plain_given _ _ _ _ _ _ c.is_personal.ensures c.if-is_personal.false); image_after = c.enact.ensures.image_after }
