-- 11 for an EV1 of another size, or the old answer.
use Rattle.either_card.specs.Either.{card_no_session_of}
use Rattle.either_card.proofs.no_session.Goals as goal

pub returns-then-is_wrong_size : goal.returns-then-is_wrong_size
unfolding card_no_session_of
returns-then-is_wrong_size c = rw (c.refusal-answer.ensures, ← c.is_wrong_size.ensures, c.if-is_wrong_size.true)

pub returns-else-is_wrong_size : goal.returns-else-is_wrong_size
unfolding card_no_session_of
returns-else-is_wrong_size c = rw (c.no_session-answer.ensures, ← c.is_wrong_size.ensures, c.if-is_wrong_size.false)
