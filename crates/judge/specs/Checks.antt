-- The checks by their numbers, and which of them each command has to pass. 9 is an empty register, and 13 and 10 come with the result.
use Rattle.std.specs.Prelude.{ℕ, ◌+◌, Bool, true, false, not, ◌&&◌, ◌||◌, cond, List, [], ◌∷◌, ◌++◌, eqb, get_or, length, None, Some}
use Rattle.layout.specs.Layout.{sectors_of, has_block, sector_of, trailer_of, is_trailer, group_of}
use Rattle.layout.specs.declared.Block.{Block}
use Rattle.layout.specs.declared.Group.TheVariants.{Trailer}
use Rattle.memory.specs.Memory.{content_of}
use Rattle.access.specs.Bits.{access_bytes_of, well_formed, group_bits}
use Rattle.access.specs.Rights.{may_of, writable_of, mute_of}
use Rattle.access.specs.declared.bits.AccessBytes.{AccessBytes}
use Rattle.access.specs.declared.rights.Letter.{Letter}
use Rattle.access.specs.declared.rights.Letter.TheVariants.{KeyA, KeyB}
use Rattle.access.specs.declared.rights.Operation.{Operation}
use Rattle.access.specs.declared.rights.Operation.TheVariants as column
use Rattle.access.specs.declared.rights.Parts.{Parts}
use Rattle.value.specs.Block.{agreeing}
use Rattle.session.specs.Session.{coherent_of, in_sector, is_empty}
use Rattle.session.specs.Session.{Auth}
use Rattle.session.specs.declared.Kind.{Kind}
use Rattle.session.specs.declared.Kind.TheVariants.{Increment, Decrement, Restore}
use Rattle.session.specs.declared.Session.{Session}
use Rattle.frame.specs.Command.{byte_in}
use Rattle.frame.specs.declared.Command.{Command}
use Rattle.frame.specs.declared.Command.TheVariants.{Unknown, Authenticate, Read, Write, Store, Begin, Apply, Transfer, Halt}
use Rattle.judge.specs.First.{Check, check}

-- the trailer of a block's sector, and the access bytes in it
abbrev pub guard_of : List ℕ → Block → List ℕ
guard_of image b = content_of image (trailer_of (sector_of b))

abbrev pub access_of : List ℕ → Block → AccessBytes
access_of image b = access_bytes_of (guard_of image b)

-- 11: no card has such an image
unfoldable pub no_card : List ℕ → Bool
no_card image = eqb (sectors_of (length image)) 0

-- 12: the session is not coherent
unfoldable pub incoherent : List ℕ → Session → Bool
incoherent image s = not (coherent_of (length image) s)

-- 2: the image lacks the block
unfoldable pub no_block : List ℕ → Block → Bool
no_block image b = not (has_block (length image) b)

-- 3: the session is not authenticated for the block's sector
unfoldable pub other_sector : Auth → Block → Bool
other_sector auth b = not (in_sector auth (sector_of b))

-- 5: malformed access bytes block the sector
unfoldable pub is_blocked : AccessBytes → Bool
is_blocked x = not (well_formed x)

-- the frame's key, its bytes 2 to 7, is the one that begins at this byte of the trailer
abbrev pub key_at : List ℕ → ℕ → List ℕ → Bool
key_at trailer at frame =
    eqb (get_or trailer at 0) (byte_in frame 2)
    && eqb (get_or trailer (at + 1) 0) (byte_in frame 3)
    && eqb (get_or trailer (at + 2) 0) (byte_in frame 4)
    && eqb (get_or trailer (at + 3) 0) (byte_in frame 5)
    && eqb (get_or trailer (at + 4) 0) (byte_in frame 6)
    && eqb (get_or trailer (at + 5) 0) (byte_in frame 7)

-- key A begins at byte 0, key B at byte 10
unfoldable pub is_key : List ℕ → Letter → List ℕ → Bool
is_key trailer KeyA frame = key_at trailer 0 frame
is_key trailer KeyB frame = key_at trailer 10 frame

-- 4: the frame brings another key
unfoldable pub wrong_key : List ℕ → Letter → Block → List ℕ → Bool
wrong_key image l b frame = not (is_key (guard_of image b) l frame)

-- 6: block 0 (z) is only read, and a trailer (t) is not for values
unfoldable pub is_forbidden : Operation → Bool → Bool → Bool
is_forbidden column.Read z t = false
is_forbidden column.Write z t = z
is_forbidden column.Increment z t = z || t
is_forbidden column.Decrement z t = z || t

-- a trailer is read freely, and written where some part may be; a value operation never gets here, by 6
unfoldable pub trailer_right : Operation → Parts → Bool
trailer_right column.Read p = true
trailer_right column.Write p = p.a || p.bits || p.b
trailer_right column.Increment p = false
trailer_right column.Decrement p = false

-- the right of a key to a block with the bits n, in a sector whose trailer has the bits m: none for a readable key B
unfoldable pub right_of : Letter → Operation → Bool → ℕ → ℕ → Bool
right_of l o trailer n m = not (mute_of l m) && cond trailer (trailer_right o (writable_of l n)) (may_of l o n)

unfoldable pub has_right : Auth → Operation → Bool → ℕ → ℕ → Bool
has_right None o trailer n m = false
has_right (Some (s, l)) o trailer n m = right_of l o trailer n m

-- the parts of a trailer with the bits m that a session may write
unfoldable pub writable_by : Auth → ℕ → Parts
writable_by None m = record { a = false; bits = false; b = false }
writable_by (Some (s, l)) m = writable_of l m

-- 7: the rights do not allow it
unfoldable pub no_right : AccessBytes → Auth → Operation → Block → Bool
no_right x auth o b = not (has_right auth o (is_trailer b) (group_bits x (group_of b)) (group_bits x Trailer))

-- 8: what stands in the block is no value
unfoldable pub no_value : List ℕ → Block → Bool
no_value image b = not (agreeing (content_of image b))

-- Restore has no column of its own
unfoldable pub kind_column : Kind → Operation
kind_column Increment = column.Increment
kind_column Decrement = column.Decrement
kind_column Restore = column.Decrement

-- what every memory command has to pass
unfoldable pub memory_checks : List ℕ → Auth → Operation → Block → List Check
memory_checks image auth o b =
    check 2 (no_block image b)
    ∷ check 3 (other_sector auth b)
    ∷ check 5 (is_blocked (access_of image b))
    ∷ check 6 (is_forbidden o (eqb b.0 0) (is_trailer b))
    ∷ check 7 (no_right (access_of image b) auth o b)
    ∷ []

-- what Authenticate has to pass
unfoldable pub authenticate_checks : List ℕ → Letter → Block → List ℕ → List Check
authenticate_checks image l b frame =
    check 2 (no_block image b) ∷ check 5 (is_blocked (access_of image b)) ∷ check 4 (wrong_key image l b frame) ∷ []

-- what each command has to pass: Store runs the checks of Write and Apply those of Begin, Transfer goes by the column of decrement, and a Halt has none
unfoldable pub checks_of : List ℕ → Session → Command → List ℕ → List Check
checks_of image s Unknown frame = check 1 true ∷ []
checks_of image s (Authenticate b l) frame = authenticate_checks image l b frame
checks_of image s (Read b) frame = memory_checks image s.auth column.Read b
checks_of image s (Write b) frame = memory_checks image s.auth column.Write b
checks_of image s (Store b) frame = memory_checks image s.auth column.Write b
checks_of image s (Begin b k) frame = memory_checks image s.auth (kind_column k) b ++ (check 8 (no_value image b) ∷ [])
checks_of image s (Apply b k) frame = memory_checks image s.auth (kind_column k) b ++ (check 8 (no_value image b) ∷ [])
checks_of image s (Transfer b) frame = memory_checks image s.auth column.Decrement b ++ (check 9 (is_empty s.register) ∷ [])
checks_of image s Halt frame = []

-- 11 and 12, before the frame is looked at
unfoldable pub frame_checks : List ℕ → Session → List Check
frame_checks image s = check 11 (no_card image) ∷ check 12 (incoherent image s) ∷ []
