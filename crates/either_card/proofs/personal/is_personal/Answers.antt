-- The edition and the stage, the length, the code.
use Rattle.either_card.specs.Personal.{is_personal}
use Rattle.either_card.proofs.personal.is_personal.Goals as goal

pub returns : goal.returns
unfolding is_personal
returns c = rw (← c.byte.ensures, ← c.is_idle.ensures, ← c.is_known.ensures)
