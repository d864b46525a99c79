-- Answers to what speaks of them: the reply is a list of bytes, sixteen of them or eighteen.
use Rattle.std.specs.Prelude.{List, ℕ}
use Rattle.card.specs.declared.Answer as with_reply

abbrev pub Answer : Type 0
Answer = with_reply.Answer (List ℕ)
