-- An EV1's 11 first.
use Rattle.either_card.proofs.sealing.first_refusal.Goals as goal

pub returns-then-is_wrong_size : goal.returns-then-is_wrong_size
returns-then-is_wrong_size c = rw (← c.is_wrong_size.ensures, c.if-is_wrong_size.true)

pub returns : goal.returns
returns c = rw (← c.is_wrong_size.ensures, c.if-is_wrong_size.false) c.first_refusal.ensures
