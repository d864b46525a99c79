-- The card's record as four bytes: edition, locked or not, type, zero.
use Rattle.std.specs.Prelude.{Bool, ◌&&◌, ◌||◌, cond, List, [], ◌∷◌, ℕ, eqb, ltb, get_or, None, Option, Some}
use Rattle.edition.specs.declared.Edition.{Edition}
use Rattle.edition.specs.declared.Edition.TheVariants.{Old, Ev1}
use Rattle.edition.specs.Edition.{Choice}
use Rattle.edition.specs.declared.CardRecord.{CardRecord}
use Rattle.edition.specs.Edition.{usage_of, usage_code}

-- 0 old, 1 EV1; 0 open, 1 locked; the type, 0 where it is open
abbrev pub edition_code : Edition → ℕ
edition_code Old = 0
edition_code Ev1 = 1

abbrev pub lock_code : Choice → ℕ
lock_code None = 0
lock_code (Some u) = 1

abbrev pub type_code : Choice → ℕ
type_code None = 0
type_code (Some u) = usage_code u

-- a record as its bytes
unfoldable pub record_bytes : CardRecord → List ℕ
record_bytes k = edition_code k.edition ∷ lock_code k.choice ∷ type_code k.choice ∷ 0 ∷ []

-- four bytes are a record: edition 0 or 1; open with type 0, or locked with one of the four; the last byte 0
unfoldable pub is_usage : ℕ → Bool
is_usage code = eqb code 0x00 || eqb code 0x40 || eqb code 0x20 || eqb code 0x60

unfoldable pub is_choice : ℕ → ℕ → Bool
is_choice lock code = cond (eqb lock 0) (eqb code 0) (eqb lock 1 && is_usage code)

unfoldable pub is_card : List ℕ → Bool
is_card bytes = ltb (get_or bytes 0 0) 2 && is_choice (get_or bytes 1 0) (get_or bytes 2 0) && eqb (get_or bytes 3 0) 0

-- the record that they name
unfoldable pub edition_by : ℕ → Edition
edition_by code = cond (eqb code 0) Old Ev1

unfoldable pub choice_by : ℕ → ℕ → Choice
choice_by lock code = cond (eqb lock 0) None (usage_of code)

unfoldable pub named_by : List ℕ → CardRecord
named_by bytes = record { edition = edition_by (get_or bytes 0 0); choice = choice_by (get_or bytes 1 0) (get_or bytes 2 0) }

-- what four bytes hold
unfoldable pub found_in : List ℕ → Option CardRecord
found_in bytes = cond (is_card bytes) (Some (named_by bytes)) None
