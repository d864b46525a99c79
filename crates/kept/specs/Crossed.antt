-- An answer as callers keep it who lend bytes: its record is four of them, and its figures are sixteen.
use Rattle.std.specs.Prelude.{List, ℕ}
use Rattle.card.specs.Answers.{Answer}
use Rattle.edition.specs.Bytes.{record_bytes}
use Rattle.tally.specs.Bytes.{figures_bytes}
use Rattle.kept.specs.Answers.{KeptAnswer}

pub record Crossed : Type 0 where
  pub answer : Answer
  pub nak : ℕ
  pub card : List ℕ
  pub figures : List ℕ

abbrev pub crossed : KeptAnswer → Crossed
crossed a = record { answer = a.answer.answer; nak = a.answer.nak; card = record_bytes a.answer.card; figures = figures_bytes a.figures }
