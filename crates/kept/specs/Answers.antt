-- Answers with the figures too, of either length.
use Rattle.std.specs.Prelude.{List, ℕ}
use Rattle.kept.specs.declared.KeptAnswer as with_reply

abbrev pub KeptAnswer : Type 0
KeptAnswer = with_reply.KeptAnswer (List ℕ)
