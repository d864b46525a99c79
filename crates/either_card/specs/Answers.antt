-- Answers with the value of a NAK and the record, of either length.
use Rattle.std.specs.Prelude.{List, ℕ}
use Rattle.either_card.specs.declared.CardAnswer as with_reply

abbrev pub CardAnswer : Type 0
CardAnswer = with_reply.CardAnswer (List ℕ)
