-- A frame with a right checksum gets what its inner bytes get as a bare frame; any other gets 14.
-- Assumes nothing.
use mathlib.Core.Path.{◌≡◌, refl}
use mathlib.Core.Bool.{Bool, true, false, ◌||◌, cond}
use mathlib.Core.List.{List, ◌++◌}
use Prim.Native.Nat.{ℕ, ◌+◌, ◌-◌, ◌<◌, ◌≤◌}
use native.Mathlib.Omega.{arith}
use lib.Dec.{eqb}
use lib.ListN.{length, replicate, length-append}
use lib.Seq.{take_at, drop_at}
use borrow.Author.Tests.{le-ltb}
use Rattle.value.proofs.Blocks.{same_refl}
use Rattle.session.specs.Session.{fresh_of}
use Rattle.session.specs.declared.Session.{Session}
use Rattle.judge.specs.First.{first}
use Rattle.judge.specs.Checks.{no_card, incoherent, frame_checks}
use Rattle.judge.specs.declared.Act.{Act}
use Rattle.judge.specs.declared.Act.TheVariants.{Refused, Authenticated, Shown, TrailerShown, WriteWaits, ValueWaits, Stored, TrailerStored, Loaded, Moved, Halted}
use Rattle.card.specs.Effects.{number_of, sign_of, refused_sign, reply_of, session_of, image_of}
use Rattle.card.specs.Step.{answered, answer_of, image_after}
use Rattle.card.specs.declared.Sign.TheVariants.{Nak, Nothing}
use Rattle.checksum.specs.Checksum.{crc_of, two_of}
use Rattle.card.specs.Answers.{Answer}
use Rattle.sealed.specs.Sealed.{inner_of, seal_in, unsealed, sealed_reply, sealed_of, sealed_answer_of, sealed_image_after}
use Rattle.sealed.proofs.Ways.{short}
use Rattle.sealed.proofs.Acts.{inner_act, refused_act}

-- a right checksum: the bare answer, with its reply extended, and the bare image
pub as_bare : (image : List ℕ) (s : Session) (frame : List ℕ) → unsealed frame ≡ false
    → (sealed_answer_of image s frame ≡ sealed_of (answer_of image s (inner_of frame))) × (sealed_image_after image s frame ≡ image_after image s (inner_of frame))
unfolding sealed_answer_of sealed_image_after answer_of image_after
as_bare image s frame e = rw (inner_act image s frame e) (refl, refl)

-- 14: NAK, zeros, the fresh session
abbrev pub refused14 : Answer
refused14 = record { number = 14; sign = Nak; reply = replicate 18 0; session = fresh_of }

-- on a card and for a coherent session
module _ (image : List ℕ) (s : Session) (frame : List ℕ) (card : no_card image ≡ false) (coherent : incoherent image s ≡ false) where
  -- a wrong checksum is 14, whatever the inner bytes are, and changes no byte
  pub wrong_checksum : unsealed frame ≡ true → (sealed_answer_of image s frame ≡ refused14) × (sealed_image_after image s frame ≡ image)
  unfolding sealed_answer_of sealed_image_after sealed_of sealed_reply answered number_of sign_of refused_sign reply_of session_of image_of frame_checks first
  wrong_checksum e = rw (refused_act image s frame 14 e (rw (card, coherent))) (refl, refl)

  -- and so is a frame of fewer than three bytes, `63 63` among them, where the checksum of nothing is right
  pub too_short : length frame < 3 → (sealed_answer_of image s frame ≡ refused14) × (sealed_image_after image s frame ≡ image)
  too_short h = wrong_checksum (short frame h)

-- bytes with their checksum put after them
module _ (bytes : List ℕ) where
  abbrev pub sent : List ℕ
  sent = bytes ++ two_of (crc_of bytes)

  two_more : length sent ≡ length bytes + 2
  unfolding two_of
  two_more = length-append bytes (two_of (crc_of bytes))

  inner_length : length bytes ≡ length sent - 2
  inner_length = omega (arith, two_more)

  -- they are the inner bytes, and pass 14 if there are any
  pub sent_inner : inner_of sent ≡ bytes
  unfolding inner_of
  sent_inner = take_at bytes (two_of (crc_of bytes)) (length sent - 2) inner_length

  pub sent_passes : 0 < length bytes → unsealed sent ≡ false
  unfolding unsealed seal_in
  sent_passes h =
      let long : 3 ≤ length sent = omega (arith, two_more) in
      rw (le-ltb (length sent) 3 long, sent_inner, drop_at bytes (two_of (crc_of bytes)) (length sent - 2) inner_length, same_refl (two_of (crc_of bytes)))

  -- so a bare frame sent with its checksum gets the bare answer
  pub sent_as_bare : 0 < length bytes → (image : List ℕ) (s : Session)
      → (sealed_answer_of image s sent ≡ sealed_of (answer_of image s bytes)) × (sealed_image_after image s sent ≡ image_after image s bytes)
  sent_as_bare h image s = rw sent_inner at (as_bare image s sent (sent_passes h))

-- an accepted Read
abbrev pub is_read : Act → Bool
is_read (Refused n) = false
is_read (Authenticated t l) = false
is_read (Shown b) = true
is_read (TrailerShown b m) = true
is_read (WriteWaits b) = false
is_read (ValueWaits b k) = false
is_read (Stored b) = false
is_read (TrailerStored b m) = false
is_read (Loaded v a) = false
is_read (Moved b v a) = false
is_read Halted = false

-- no refusal has a reply
pub refused_none : (n : ℕ) (reply : List ℕ) → sealed_reply (refused_sign n) reply ≡ replicate 18 0
unfolding sealed_reply refused_sign
refused_none n reply = go (eqb n 11 || eqb n 12 || eqb n 29 || eqb n 1 || eqb n 4)
  where
    go : (t : Bool) → sealed_reply (cond t Nothing Nak) reply ≡ replicate 18 0
    go true = refl
    go false = refl

-- has a reply with its checksum, and nothing else has one
pub only_reads : (image : List ℕ) (s : Session) (act : Act)
    → (sealed_of (answered image s act)).reply ≡ cond (is_read act) (reply_of image act ++ two_of (crc_of (reply_of image act))) (replicate 18 0)
unfolding sealed_of sealed_reply answered sign_of
only_reads image s (Refused n) = refused_none n (reply_of image (Refused n))
only_reads image s (Authenticated t l) = refl
only_reads image s (Shown b) = refl
only_reads image s (TrailerShown b m) = refl
only_reads image s (WriteWaits b) = refl
only_reads image s (ValueWaits b k) = refl
only_reads image s (Stored b) = refl
only_reads image s (TrailerStored b m) = refl
only_reads image s (Loaded v a) = refl
only_reads image s (Moved b v a) = refl
only_reads image s Halted = refl
