-- What only contracts inside this crate cite. What the card means does not rest on it.
use Rattle.std.specs.Prelude.{cond, ℕ}
use Rattle.session.specs.declared.Session.{Session}
use Rattle.card.specs.Step.{refusal_of}
use Rattle.edition.specs.declared.CardRecord.{CardRecord}
use Rattle.either_card.specs.Code.{given_of}
use Rattle.tally.specs.Change.{in_range}
use Rattle.tally.specs.declared.change.Figures.{Figures}
use Rattle.kept.specs.Answers.{KeptAnswer}

-- a refusal, with the figures as they came
unfoldable pub refused_kept : CardRecord → Figures → Session → ℕ → KeptAnswer
refused_kept k f s n = record { answer = given_of k s.register (refusal_of n); figures = f }

-- what refuses a frame without its checksum past 12
unfoldable pub after12 : Figures → ℕ
after12 f = cond (in_range f) 14 29
