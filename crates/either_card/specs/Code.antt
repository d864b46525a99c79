-- What only contracts inside this crate cite: the ways of the code. What the card means does not rest on it.
use Rattle.std.specs.Prelude.{false, cond, List, ℕ, eqb, None, Some, Result, Ok, Err}
use Rattle.layout.specs.Layout.{block_at}
use Rattle.layout.specs.declared.Group.TheVariants.{First, Trailer}
use Rattle.access.specs.Bits.{group_bits}
use Rattle.access.specs.declared.bits.AccessBytes.{AccessBytes}
use Rattle.access.specs.declared.rights.Letter.{Letter}
use Rattle.access.specs.declared.rights.Operation.TheVariants.{Read}
use Rattle.session.specs.Session.{Auth}
use Rattle.session.specs.Session.{Register}
use Rattle.session.specs.declared.Session.{Session}
use Rattle.judge.specs.Checks.{access_of, incoherent, is_blocked, right_of}
use Rattle.judge.specs.Code.{refusal_number}
use Rattle.judge.specs.declared.Refusal.{Refusal}
use Rattle.card.specs.Answers.{Answer}
use Rattle.edition.specs.Edition.{usage_of}
use Rattle.edition.specs.declared.CardRecord.{CardRecord}
use Rattle.either_card.specs.Nak.{nak_of}
use Rattle.either_card.specs.Personal.{acknowledged, locked_with}
use Rattle.either_card.specs.Answers.{CardAnswer}

-- a bare answer with the value of its NAK; the record is kept
unfoldable pub given_of : CardRecord → Register → Answer → CardAnswer
given_of k register a = record { answer = a; nak = nak_of k.edition register a.sign a.number; card = k }

-- the number of a refusal; 0 where there is none
abbrev pub number_told : Result (Unit {0}) Refusal → ℕ
number_told (Ok u) = 0
number_told (Err r) = refusal_number r

-- what a Read of block 0 is refused with: by the access bytes of its sector, 5 and 7
unfoldable pub sector_refusal : AccessBytes → Letter → ℕ
sector_refusal x l = cond (is_blocked x) 5 (cond (right_of l Read false (group_bits x First) (group_bits x Trailer)) 0 7)

-- 3 before them
unfoldable pub zero_refusal : List ℕ → Auth → ℕ
zero_refusal image None = 3
zero_refusal image (Some (t, l)) = cond (eqb t.0 0) (sector_refusal (access_of image (block_at 0)) l) 3

-- and 12 before it
unfoldable pub read_refusal : List ℕ → Session → ℕ
read_refusal image s = cond (incoherent image s) 12 (zero_refusal image s.auth)

-- the answer to a 40h: acknowledged, and the record, which only an accepted one changes
unfoldable pub acknowledged_with : CardAnswer → ℕ → CardAnswer
acknowledged_with a code =
    record {
      answer = acknowledged a.answer;
      nak = a.nak;
      card = cond (eqb a.answer.number 0) (locked_with a.card (usage_of code)) a.card;
    }
