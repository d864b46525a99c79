-- The results of a run as bytes, for those who embed it.
use Rattle.std.specs.Prelude.{List, [], ◌∷◌, ◌++◌, ℕ, ◌+◌}
use Rattle.card.specs.Effects.{sign_code}
use Rattle.either_card.specs.Answers.{CardAnswer}

-- an answer of an old card: its number, its sign as a number, its sixteen reply bytes
unfoldable pub result_of : CardAnswer → List ℕ
result_of a = a.answer.number ∷ sign_code a.answer.sign ∷ a.answer.reply

unfoldable pub results_of : List CardAnswer → List ℕ
results_of [] = []
results_of (a ∷ rest) = result_of a ++ results_of rest

-- of a card with its record: the NAK's value stands before the reply
unfoldable pub card_result_of : CardAnswer → List ℕ
card_result_of a = a.answer.number ∷ sign_code a.answer.sign ∷ a.nak ∷ a.answer.reply

unfoldable pub card_results_of : List CardAnswer → List ℕ
card_results_of [] = []
card_results_of (a ∷ rest) = card_result_of a ++ card_results_of rest

-- all answers from event i on, kept in some form
unfoldable pub kept_of : (ℕ → CardAnswer → List ℕ) → ℕ → List CardAnswer → List ℕ
kept_of kept i [] = []
kept_of kept i (a ∷ rest) = kept i a ++ kept_of kept (i + 1) rest
