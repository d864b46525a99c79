-- Each way out is a law of the entry at a place.
use mathlib.Core.Path.{◌∙◌}
use native.Mathlib.Omega.{arith}
use Rattle.directory.proofs.Places.{no_place, first_place, second_place, past_places}
use Rattle.directory.proofs.entries.entry_at.Goals as goal

pub returns-in-1-to-15 : goal.returns-in-1-to-15
returns-in-1-to-15 c = c.number_at.ensures ∙ first_place _ _ (λ z. omega arith) (omega arith)

pub returns-in-16-to-38 : goal.returns-in-16-to-38
returns-in-16-to-38 c = c.number_at-in-16-to-38.ensures ∙ second_place _ _ (omega arith) (omega arith)

pub returns-in_default : goal.returns-in_default
returns-in_default c = no_place _ _ (omega arith)

pub returns-in_default-2 : goal.returns-in_default-2
returns-in_default-2 c = past_places _ _ (omega arith)
