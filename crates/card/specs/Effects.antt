-- What an act gives back, and what it leaves behind. Refusals are cases like any other.
use Rattle.std.specs.Prelude.{cond, ◌||◌, List, ℕ, ◌+◌, ◌*◌, eqb, None, Some}
use Rattle.memory.specs.Memory.{sixteen_of, content_of, store_of}
use Rattle.access.specs.Rights.{readable_of}
use Rattle.value.specs.Whole.{signed}
use Rattle.value.specs.Block.{encode_of}
use Rattle.session.specs.Session.{fresh_of}
use Rattle.session.specs.Session.{Auth}
use Rattle.session.specs.declared.Stage.TheVariants as stage
use Rattle.session.specs.declared.Session.{Session}
use Rattle.judge.specs.declared.Act.{Act}
use Rattle.judge.specs.declared.Act.TheVariants.{Refused, Authenticated, Shown, TrailerShown, WriteWaits, ValueWaits, Stored, TrailerStored, Loaded, Moved, Halted}
use Rattle.judge.specs.Checks.{writable_by}
use Rattle.card.specs.Trailer.{zeros, shown_trailer, mixed_of}
use Rattle.card.specs.declared.Sign.{Sign}
use Rattle.card.specs.declared.Sign.TheVariants.{Ack, Nak, Data, Nothing}

-- the number: that of the refusal, or 0
unfoldable pub number_of : Act → ℕ
number_of (Refused n) = n
number_of (Authenticated t l) = 0
number_of (Shown b) = 0
number_of (TrailerShown b m) = 0
number_of (WriteWaits b) = 0
number_of (ValueWaits b k) = 0
number_of (Stored b) = 0
number_of (TrailerStored b m) = 0
number_of (Loaded v a) = 0
number_of (Moved b v a) = 0
number_of Halted = 0

-- 11, 12, 29, 1 and 4 put nothing on the air, every other refusal NAK
unfoldable pub refused_sign : ℕ → Sign
refused_sign n = cond (eqb n 11 || eqb n 12 || eqb n 29 || eqb n 1 || eqb n 4) Nothing Nak

unfoldable pub sign_of : Act → Sign
sign_of (Refused n) = refused_sign n
sign_of (Authenticated t l) = Ack
sign_of (Shown b) = Data
sign_of (TrailerShown b m) = Data
sign_of (WriteWaits b) = Ack
sign_of (ValueWaits b k) = Ack
sign_of (Stored b) = Ack
sign_of (TrailerStored b m) = Ack
sign_of (Loaded v a) = Nothing
sign_of (Moved b v a) = Ack
sign_of Halted = Nothing

-- a sign as a number, for those who keep answers as bytes
abbrev pub sign_code : Sign → ℕ
sign_code Ack = 0
sign_code Nak = 1
sign_code Data = 2
sign_code Nothing = 3

-- a number and a sign in one: the number in the low byte, the sign's in the next
abbrev pub packed_of : ℕ → Sign → ℕ
packed_of number sign = number + 256 * sign_code sign

-- the sixteen reply bytes: zeros but for an accepted Read, which shows its block; a trailer as its bits m say
unfoldable pub reply_of : List ℕ → Act → List ℕ
reply_of image (Refused n) = zeros
reply_of image (Authenticated t l) = zeros
reply_of image (Shown b) = content_of image b
reply_of image (TrailerShown b m) = shown_trailer (readable_of m) (content_of image b)
reply_of image (WriteWaits b) = zeros
reply_of image (ValueWaits b k) = zeros
reply_of image (Stored b) = zeros
reply_of image (TrailerStored b m) = zeros
reply_of image (Loaded v a) = zeros
reply_of image (Moved b v a) = zeros
reply_of image Halted = zeros

-- the session afterwards
unfoldable pub session_of : Session → Act → Session
session_of s (Refused n) = fresh_of
session_of s (Authenticated t l) = record { auth = Some (t, l); stage = stage.Idle; register = None }
session_of s (Shown b) = s
session_of s (TrailerShown b m) = s
session_of s (WriteWaits b) = record { auth = s.auth; stage = stage.WriteWaits b; register = s.register }
session_of s (ValueWaits b k) = record { auth = s.auth; stage = stage.ValueWaits k b; register = s.register }
session_of s (Stored b) = record { auth = s.auth; stage = stage.Idle; register = s.register }
session_of s (TrailerStored b m) = record { auth = s.auth; stage = stage.Idle; register = s.register }
session_of s (Loaded v a) = record { auth = s.auth; stage = stage.Idle; register = Some (v, a) }
session_of s (Moved b v a) = s
session_of s Halted = fresh_of

-- the image afterwards: a Write's second frame and a Transfer store into their block, nothing else stores.
-- A Write stores the sixteen bytes of its frame; of a trailer with the bits m, only the parts that the session may write
unfoldable pub image_of : List ℕ → Auth → Act → List ℕ → List ℕ
image_of image auth (Refused n) frame = image
image_of image auth (Authenticated t l) frame = image
image_of image auth (Shown b) frame = image
image_of image auth (TrailerShown b m) frame = image
image_of image auth (WriteWaits b) frame = image
image_of image auth (ValueWaits b k) frame = image
image_of image auth (Stored b) frame = store_of image b (sixteen_of frame)
image_of image auth (TrailerStored b m) frame = store_of image b (mixed_of (writable_by auth m) (content_of image b) (sixteen_of frame))
image_of image auth (Loaded v a) frame = image
image_of image auth (Moved b v a) frame = store_of image b (encode_of (signed v) a)
image_of image auth Halted frame = image
