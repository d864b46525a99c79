-- The answer, and the value of its NAK.
use Rattle.either_card.specs.Code.{given_of}
use Rattle.either_card.proofs.given.Goals as goal

pub returns : goal.returns
unfolding given_of
returns c = rw c.nak_of-nak.ensures
