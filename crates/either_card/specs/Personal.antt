-- Personalize UID Usage, 40h and a type: a command of the EV1 alone.
use Rattle.std.specs.Prelude.{Bool, true, false, cond, ◌&&◌, List, [], ◌∷◌, ℕ, eqb, length, None, Option, Some}
use Rattle.layout.specs.Layout.{block_at}
use Rattle.session.specs.Session.{is_idle}
use Rattle.session.specs.declared.Stage.{Stage}
use Rattle.frame.specs.Command.{byte_in}
use Rattle.judge.specs.declared.Act.{Act}
use Rattle.judge.specs.declared.Act.TheVariants.{Refused, Shown}
use Rattle.card.specs.Trailer.{zeros}
use Rattle.card.specs.Answers.{Answer}
use Rattle.card.specs.declared.Sign.{Sign}
use Rattle.card.specs.declared.Sign.TheVariants.{Ack, Nak, Data, Nothing}
use Rattle.edition.specs.declared.Edition.{Edition}
use Rattle.edition.specs.declared.Edition.TheVariants.{Old, Ev1}
use Rattle.edition.specs.Edition.{Choice}
use Rattle.edition.specs.declared.CardRecord.{CardRecord}
use Rattle.edition.specs.declared.Usage.{Usage}

-- two bytes, 40h first, where no second frame is awaited
abbrev pub known : Edition → Bool
known Old = false
known Ev1 = true

unfoldable pub is_personal : Edition → Stage → List ℕ → Bool
is_personal edition stage frame = known edition && is_idle stage && eqb (length frame) 2 && eqb (byte_in frame 0) 0x40

-- it is judged as a Read of block 0 is
abbrev pub read_zero : List ℕ
read_zero = 0x30 ∷ 0x00 ∷ []

-- 17, an unknown type; 18, the choice is locked; else image and session are left as by that Read
abbrev pub chosen : Choice → Option Usage → Act
chosen choice None = Refused 17
chosen (Some v) (Some u) = Refused 18
chosen None (Some u) = Shown (block_at 0)

-- it is refused with what the Read is refused with, and then with 17 or 18
unfoldable pub choosing : Choice → Option Usage → ℕ → Act
choosing choice asked number = cond (eqb number 0) (chosen choice asked) (Refused number)

-- an ACK for the data of the Read
abbrev pub acknowledged_sign : Sign → Sign
acknowledged_sign Data = Ack
acknowledged_sign Ack = Ack
acknowledged_sign Nak = Nak
acknowledged_sign Nothing = Nothing

unfoldable pub acknowledged : Answer → Answer
acknowledged a = record { number = a.number; sign = acknowledged_sign a.sign; reply = zeros; session = a.session }

-- the record afterwards: an accepted one locks the choice for good
abbrev pub locked_with : CardRecord → Option Usage → CardRecord
locked_with k (Some u) = record { edition = k.edition; choice = Some u }
locked_with k None = k
