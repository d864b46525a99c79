-- The reply gets its checksum.
use Rattle.either_card.specs.Either.{sealed_card_of}
use Rattle.either_card.proofs.sealing.sealed_card.Goals as goal

pub returns : goal.returns
unfolding sealed_card_of
returns c = rw c.sealed.ensures
