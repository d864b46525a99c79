-- An opening as C sees it: the number, and the figures as sixteen bytes.
use Rattle.std.specs.Prelude.{cond, List, ℕ, length, Option, Some, None, Result, Err}
use Rattle.std.specs.Result.{result_unwrap_or}
use Rattle.edition.specs.Edition.{wrong_size}
use Rattle.edition.specs.declared.CardRecord.{CardRecord}
use Rattle.tally.specs.Full.{refusal_number, opened_of}
use Rattle.tally.specs.declared.change.Figures.{Figures}
use Rattle.tally.specs.declared.Refusal.{Refusal}
use Rattle.tally.specs.declared.Refusal.TheVariants.{NoCard}
use Rattle.desk.specs.Desk.{number_of}

-- an EV1 has one size
unfoldable pub opened_for : List ℕ → CardRecord → Result Figures Refusal
opened_for image k = cond (wrong_size k.edition (length image)) (Err NoCard) (opened_of image)

-- four bytes that are no record stand for no card
unfoldable pub opened_with : List ℕ → Option CardRecord → Result Figures Refusal
opened_with image (Some k) = opened_for image k
opened_with image None = Err NoCard

-- no card: 11
abbrev pub opening_number : Result Figures Refusal → ℕ
opening_number o = number_of refusal_number o

-- and figures of 0
abbrev pub opening_figures : Result Figures Refusal → Figures
opening_figures o = result_unwrap_or o (record { count = 0; sum = 0 })
