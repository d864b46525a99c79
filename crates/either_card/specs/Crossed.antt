-- An answer as callers keep it who lend bytes: its record is four of them.
use Rattle.std.specs.Prelude.{List, ℕ}
use Rattle.card.specs.Answers.{Answer}
use Rattle.edition.specs.Bytes.{record_bytes}
use Rattle.either_card.specs.Answers.{CardAnswer}

pub record Crossed : Type 0 where
  pub answer : Answer
  pub nak : ℕ
  pub card : List ℕ

abbrev pub crossed : CardAnswer → Crossed
crossed a = record { answer = a.answer; nak = a.nak; card = record_bytes a.card }
