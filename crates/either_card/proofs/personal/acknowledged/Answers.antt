-- The sign and the record; the rest is handed on.
use Rattle.either_card.specs.Personal.{acknowledged}
use Rattle.either_card.specs.Code.{acknowledged_with}
use Rattle.either_card.proofs.personal.acknowledged.Goals as goal

pub returns : goal.returns
unfolding acknowledged_with acknowledged
returns c = rw (c.next_record-card.ensures, c.acknowledged_sign-sign.ensures)
