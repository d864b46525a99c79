-- The card's record: its edition, and how its UID is to be used.
use Rattle.std.specs.Prelude.{Bool, false, not, cond, ℕ, eqb, None, Option, Some}
use Rattle.edition.specs.declared.Edition.{Edition}
use Rattle.edition.specs.declared.Edition.TheVariants.{Old, Ev1}
use Rattle.edition.specs.declared.Usage.{Usage}
use Rattle.edition.specs.declared.Usage.TheVariants.{Double, Shortened, Random, Single}
use Rattle.edition.specs.declared.CardRecord.{CardRecord}

-- the choice of a type, locked for good; none while the card is open to one
abbrev pub Choice : Type 0
Choice = Option Usage

-- a card of the old edition, which knows no choice
abbrev pub old_card : CardRecord
old_card = record { edition = Old; choice = None }

-- the four type bytes: a double-size UID, the same with a shorter selection, a random number of single size, a fixed one of single size
unfoldable pub usage_of : ℕ → Option Usage
usage_of code =
    cond (eqb code 0x00) (Some Double)
    (cond (eqb code 0x40) (Some Shortened)
    (cond (eqb code 0x20) (Some Random)
    (cond (eqb code 0x60) (Some Single) None)))

abbrev pub usage_code : Usage → ℕ
usage_code Double = 0x00
usage_code Shortened = 0x40
usage_code Random = 0x20
usage_code Single = 0x60

-- 11, beside what is no card of either edition: an EV1 has 4,096 bytes
abbrev pub wrong_size : Edition → ℕ → Bool
wrong_size Old bytes = false
wrong_size Ev1 bytes = not (eqb bytes 4096)
