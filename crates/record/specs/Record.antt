-- The session as twelve bytes: who and sector, stage and block, full and address byte, two zeros, the value.
use Rattle.std.specs.Prelude.{Bool, ◌&&◌, cond, List, ◌∷◌, ℕ, eqb, get_or, None, Option, Some}
use Rattle.access.specs.declared.rights.Letter.{Letter}
use Rattle.access.specs.declared.rights.Letter.TheVariants.{KeyA, KeyB}
use Rattle.value.specs.Block.{word_of, four_of, same}
use Rattle.session.specs.Session.{Auth}
use Rattle.session.specs.declared.Kind.{Kind}
use Rattle.session.specs.declared.Kind.TheVariants.{Increment, Decrement, Restore}
use Rattle.session.specs.declared.Stage.{Stage}
use Rattle.session.specs.declared.Stage.TheVariants.{Idle, WriteWaits, ValueWaits}
use Rattle.session.specs.Session.{Register}
use Rattle.session.specs.declared.Session.{Session}

-- who is authenticated: 0 nobody, 1 key A, 2 key B; and for which sector
abbrev pub letter_code : Letter → ℕ
letter_code KeyA = 1
letter_code KeyB = 2

abbrev pub who_code : Auth → ℕ
who_code None = 0
who_code (Some (t, l)) = letter_code l

abbrev pub sector_byte : Auth → ℕ
sector_byte None = 0
sector_byte (Some (t, l)) = t.0

-- which second frame is awaited: 0 none, 1 a Write's, 2 increment, 3 decrement, 4 restore; and for which block
abbrev pub kind_code : Kind → ℕ
kind_code Increment = 2
kind_code Decrement = 3
kind_code Restore = 4

abbrev pub stage_code : Stage → ℕ
stage_code Idle = 0
stage_code (WriteWaits b) = 1
stage_code (ValueWaits k b) = kind_code k

abbrev pub block_byte : Stage → ℕ
block_byte Idle = 0
block_byte (WriteWaits b) = b.0
block_byte (ValueWaits k b) = b.0

-- the register: 0 empty, 1 full; its address byte and its value
abbrev pub full_code : Register → ℕ
full_code None = 0
full_code (Some (v, a)) = 1

abbrev pub address_byte : Register → ℕ
address_byte None = 0
address_byte (Some (v, a)) = a

abbrev pub value_bits : Register → ℕ
value_bits None = 0
value_bits (Some (v, a)) = v

-- the record of a session
unfoldable pub record_of : Session → List ℕ
record_of s =
    who_code s.auth
    ∷ sector_byte s.auth
    ∷ stage_code s.stage
    ∷ block_byte s.stage
    ∷ full_code s.register
    ∷ address_byte s.register
    ∷ 0
    ∷ 0
    ∷ four_of (value_bits s.register)

-- the parts that codes name; an unknown code names none
unfoldable pub auth_by : ℕ → ℕ → Auth
auth_by who sector = cond (eqb who 1) (Some (record { 0 = sector }, KeyA)) (cond (eqb who 2) (Some (record { 0 = sector }, KeyB)) None)

unfoldable pub stage_by : ℕ → ℕ → Stage
stage_by code block =
    cond (eqb code 1) (WriteWaits (record { 0 = block }))
    (cond (eqb code 2) (ValueWaits Increment (record { 0 = block }))
    (cond (eqb code 3) (ValueWaits Decrement (record { 0 = block }))
    (cond (eqb code 4) (ValueWaits Restore (record { 0 = block })) Idle)))

unfoldable pub register_by : ℕ → ℕ → ℕ → Register
register_by full address value = cond (eqb full 1) (Some (value, address)) None

-- codes and bytes are those of the part that they name
unfoldable pub is_auth : ℕ → ℕ → Bool
is_auth who sector = eqb who (who_code (auth_by who sector)) && eqb sector (sector_byte (auth_by who sector))

unfoldable pub is_stage : ℕ → ℕ → Bool
is_stage code block = eqb code (stage_code (stage_by code block)) && eqb block (block_byte (stage_by code block))

unfoldable pub is_register : ℕ → ℕ → ℕ → Bool
is_register full address value =
    eqb full (full_code (register_by full address value)) && eqb address (address_byte (register_by full address value))
    && eqb value (value_bits (register_by full address value))

-- the value in bytes 8 to 11, low byte first
abbrev pub value_in : List ℕ → ℕ
value_in bytes = word_of (get_or bytes 8 0) (get_or bytes 9 0) (get_or bytes 10 0) (get_or bytes 11 0)

-- the session that twelve bytes name
unfoldable pub named_by : List ℕ → Session
named_by bytes =
    record {
      auth = auth_by (get_or bytes 0 0) (get_or bytes 1 0);
      stage = stage_by (get_or bytes 2 0) (get_or bytes 3 0);
      register = register_by (get_or bytes 4 0) (get_or bytes 5 0) (value_in bytes);
    }

-- they are a record where that session is written as these very bytes
unfoldable pub is_record : List ℕ → Bool
is_record bytes = same bytes (record_of (named_by bytes))

-- what twelve bytes hold: the session whose record they are, or nothing
unfoldable pub found_in : List ℕ → Option Session
found_in bytes = cond (is_record bytes) (Some (named_by bytes)) None

-- what stands for bytes that are no record: a session that 12 refuses, with every image
abbrev pub stray_of : Session
stray_of = record { auth = None; stage = Idle; register = Some (0, 0) }

-- the session found, or the one that stands for none
abbrev pub session_in : Option Session → Session
session_in (Some s) = s
session_in None = stray_of

-- the session of twelve bytes
unfoldable pub session_from : List ℕ → Session
session_from bytes = session_in (found_in bytes)
