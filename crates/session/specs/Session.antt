-- The session record: what is fresh, and what is coherent.
use Rattle.std.specs.Prelude.{Bool, true, false, ◌&&◌, ℕ, eqb, None, Option, Some}
use Rattle.layout.specs.Layout.{has_sector}
use Rattle.layout.specs.declared.Sector.{Sector}
use Rattle.access.specs.declared.rights.Letter.{Letter}
use Rattle.session.specs.declared.Stage.{Stage}
use Rattle.session.specs.declared.Stage.TheVariants.{Idle, WriteWaits, ValueWaits}
use Rattle.session.specs.declared.Session.{Session}

-- who is authenticated: for which sector, and under which key; or nobody
abbrev pub Auth : Type 0
Auth = Option (Sector × Letter)

-- what the register holds: a value, as its bits, and its address byte; or nothing
abbrev pub Register : Type 0
Register = Option (ℕ × ℕ)

-- fresh: nobody authenticated, no second frame awaited, the register empty
abbrev pub fresh_of : Session
fresh_of = record { auth = None; stage = Idle; register = None }

-- no second frame is awaited
abbrev pub is_idle : Stage → Bool
is_idle Idle = true
is_idle (WriteWaits b) = false
is_idle (ValueWaits k b) = false

abbrev pub is_empty : Register → Bool
is_empty None = true
is_empty (Some (v, a)) = false

-- the authenticated sector is one of the image's; without one, the rest of the session has to be quiet
abbrev pub fits : Auth → ℕ → Bool → Bool
fits None bytes quiet = quiet
fits (Some (t, l)) bytes quiet = has_sector bytes t

-- with an image of so many bytes; 12 refuses where this is false
unfoldable pub coherent_of : ℕ → Session → Bool
coherent_of bytes s = fits s.auth bytes (is_idle s.stage && is_empty s.register)

-- the sector is the authenticated one
unfoldable pub in_sector : Auth → Sector → Bool
in_sector None t = false
in_sector (Some (s, l)) t = eqb s.0 t.0
