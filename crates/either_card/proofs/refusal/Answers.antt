-- The card's refusal, with its NAK's value.
use mathlib.Core.Path.{◌∙◌}
use Rattle.either_card.proofs.refusal.Goals as goal

pub returns : goal.returns
returns c = c.given.ensures ∙ rw c.refusal.ensures
