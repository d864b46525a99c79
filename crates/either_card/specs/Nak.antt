-- The value of an EV1's NAK.
use Rattle.std.specs.Prelude.{Bool, true, false, ℕ, eqb, None, Some}
use Rattle.session.specs.Session.{Register}
use Rattle.card.specs.declared.Sign.{Sign}
use Rattle.card.specs.declared.Sign.TheVariants.{Ack, Nak, Data, Nothing}
use Rattle.edition.specs.declared.Edition.{Edition}
use Rattle.edition.specs.declared.Edition.TheVariants.{Old, Ev1}

-- the sheet's table: whether the transfer buffer is valid, and whether the checksum was wrong or the operation invalid
abbrev pub value_of : Register → Bool → ℕ
value_of (Some (v, a)) false = 0
value_of (Some (v, a)) true = 1
value_of None false = 4
value_of None true = 5

-- the value beside an answer, by the register that its frame met: 14 is the wrong checksum, every other NAK an invalid operation; 0 where there is no value
abbrev pub nak_of : Edition → Register → Sign → ℕ → ℕ
nak_of Ev1 register Nak number = value_of register (eqb number 14)
nak_of Ev1 register Ack number = 0
nak_of Ev1 register Data number = 0
nak_of Ev1 register Nothing number = 0
nak_of Old register sign number = 0
