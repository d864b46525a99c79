-- 11; then a 40h; then any other frame by the card.
use mathlib.Core.Path.{sym, ◌∙◌}
use Rattle.either_card.proofs.Laws.{wrong_size_act, personal_act, other_act}
use Rattle.either_card.proofs.judge.Goals as goal

pub returns-then-is_wrong_size : goal.returns-then-is_wrong_size
returns-then-is_wrong_size c = c.refused.ensures ∙ wrong_size_act _ _ _ _ (sym c.is_wrong_size.ensures ∙ c.if-is_wrong_size.true)

pub returns-then-is_personal : goal.returns-then-is_personal
returns-then-is_personal c = c.choosing.ensures ∙ personal_act _ _ _ _ (sym c.is_wrong_size.ensures ∙ c.if-is_wrong_size.false) (sym c.is_personal.ensures ∙ c.if-is_personal.true) _ c.refusal_of.ensures _ c.byte.ensures

pub returns-else-is_personal : goal.returns-else-is_personal
returns-else-is_personal c = c.judge.ensures ∙ other_act _ _ _ _ (sym c.is_wrong_size.ensures ∙ c.if-is_wrong_size.false) (sym c.is_personal.ensures ∙ c.if-is_personal.false)
