-- What the code does on its way. What the card means does not rest on it.
use Rattle.std.specs.Prelude.{Bool, true, false, not, ◌&&◌, cond, List, [], ◌∷◌, ℕ, eqb, None, Some, Result, Ok, Err}
use Rattle.layout.specs.Layout.{is_trailer, group_of}
use Rattle.layout.specs.declared.Block.{Block}
use Rattle.layout.specs.declared.Group.TheVariants.{Trailer}
use Rattle.access.specs.Bits.{group_bits}
use Rattle.access.specs.Rights.{writable_of}
use Rattle.access.specs.declared.bits.AccessBytes.{AccessBytes}
use Rattle.access.specs.declared.rights.Letter.{Letter}
use Rattle.access.specs.declared.rights.Letter.TheVariants.{KeyA}
use Rattle.access.specs.declared.rights.Operation.{Operation}
use Rattle.access.specs.declared.rights.Operation.TheVariants as column
use Rattle.access.specs.declared.rights.Parts.{Parts}
use Rattle.session.specs.Session.{Auth}
use Rattle.session.specs.declared.Session.{Session}
use Rattle.frame.specs.declared.Command.{Command}
use Rattle.frame.specs.declared.Command.TheVariants.{Unknown, Authenticate, Read, Write, Store, Begin, Apply, Transfer, Halt}
use Rattle.judge.specs.First.{check, Outcome, passes, refuses, first, ruled}
use Rattle.judge.specs.Checks.{access_of, is_blocked, is_forbidden, right_of, writable_by, kind_column, memory_checks, checks_of}
use Rattle.judge.specs.Judge.{done_of}
use Rattle.judge.specs.declared.checks.Grant.{Grant}
use Rattle.judge.specs.declared.checks.Grant.TheVariants.{Whole, InParts}
use Rattle.judge.specs.declared.Refusal.{Refusal}
use Rattle.judge.specs.declared.Refusal.TheVariants as refusal
use Rattle.judge.specs.declared.Act.{Act}
use Rattle.judge.specs.declared.Act.TheVariants.{Refused, Authenticated, Shown, TrailerShown, WriteWaits, ValueWaits, Stored, TrailerStored, Loaded, Moved, Halted}

-- the number of a refusal
abbrev pub refusal_number : Refusal → ℕ
refusal_number refusal.Unknown = 1
refusal_number refusal.NoBlock = 2
refusal_number refusal.OtherSector = 3
refusal_number refusal.WrongKey = 4
refusal_number refusal.Blocked = 5
refusal_number refusal.Forbidden = 6
refusal_number refusal.NoRight = 7
refusal_number refusal.NoValue = 8
refusal_number refusal.EmptyRegister = 9
refusal_number refusal.OutOfRange = 10
refusal_number refusal.NoCard = 11
refusal_number refusal.Incoherent = 12
refusal_number refusal.NegativeOperand = 13
refusal_number refusal.WrongChecksum = 14
refusal_number refusal.UnknownType = 17
refusal_number refusal.AlreadyLocked = 18
refusal_number refusal.FiguresOutside = 29

-- a grant, or the number of the refusal
abbrev pub numbered : Result Grant Refusal → Result Grant ℕ
numbered (Ok g) = Ok g
numbered (Err r) = Err (refusal_number r)

-- what the code is granted of a trailer with the bits m: a Write that may change every part takes it whole, anything else by its parts
unfoldable pub trailer_grant : Operation → Parts → ℕ → Grant
trailer_grant column.Read p m = InParts m
trailer_grant column.Write p m = cond (p.a && p.bits && p.b) Whole (InParts m)
trailer_grant column.Increment p m = InParts m
trailer_grant column.Decrement p m = InParts m

-- of any block: a data block is taken whole
unfoldable pub grant_of : AccessBytes → Auth → Operation → Block → Grant
grant_of x auth o b = cond (is_trailer b) (trailer_grant o (writable_by auth (group_bits x Trailer)) (group_bits x Trailer)) Whole

-- a grant stands where the checks pass
unfoldable pub granted : Outcome → Grant → Result Grant ℕ
granted passes g = Ok g
granted (refuses n) g = Err n

unfoldable pub verdict_of : List ℕ → Auth → Operation → Block → Result Grant ℕ
verdict_of image auth o b = granted (first (memory_checks image auth o b)) (grant_of (access_of image b) auth o b)

-- what the access bytes x of a sector leave of a block to a letter: 5, 6 and 7, then the grant
abbrev pub guarded_of : AccessBytes → Letter → Operation → Block → Result Grant ℕ
guarded_of x l o b =
    granted
    (first
    (check 5 (is_blocked x)
    ∷ check 6 (is_forbidden o (eqb b.0 0) (is_trailer b))
    ∷ check 7 (not (right_of l o (is_trailer b) (group_bits x (group_of b)) (group_bits x Trailer)))
    ∷ []))
    (cond (is_trailer b) (trailer_grant o (writable_of l (group_bits x Trailer)) (group_bits x Trailer)) Whole)

-- the letter of a session; nobody is given the first
unfoldable pub letter_of : Auth → Letter
letter_of None = KeyA
letter_of (Some (s, l)) = l

-- the column and the block of a memory command; what is none is given the first
unfoldable pub column_of : Command → Operation
column_of Unknown = column.Read
column_of (Authenticate b l) = column.Read
column_of (Read b) = column.Read
column_of (Write b) = column.Write
column_of (Store b) = column.Write
column_of (Begin b k) = kind_column k
column_of (Apply b k) = kind_column k
column_of (Transfer b) = column.Decrement
column_of Halt = column.Read

unfoldable pub block_of : Command → Block
block_of Unknown = record { 0 = 0 }
block_of (Authenticate b l) = b
block_of (Read b) = b
block_of (Write b) = b
block_of (Store b) = b
block_of (Begin b k) = b
block_of (Apply b k) = b
block_of (Transfer b) = b
block_of Halt = record { 0 = 0 }

-- which commands are memory commands
unfoldable pub is_memory : Command → Bool
is_memory Unknown = false
is_memory (Authenticate b l) = false
is_memory (Read b) = true
is_memory (Write b) = true
is_memory (Store b) = true
is_memory (Begin b k) = true
is_memory (Apply b k) = true
is_memory (Transfer b) = true
is_memory Halt = false

-- a Read shows and a Write stores what is granted of the block
unfoldable pub shown_as : Block → Grant → Act
shown_as b Whole = Shown b
shown_as b (InParts m) = TrailerShown b m

unfoldable pub stored_as : Block → Grant → Act
stored_as b Whole = Stored b
stored_as b (InParts m) = TrailerStored b m

-- what a command does with a grant
abbrev pub done_with : Grant → List ℕ → Session → Command → List ℕ → Act
done_with v image s Unknown frame = done_of image s Unknown frame
done_with v image s (Authenticate b l) frame = done_of image s (Authenticate b l) frame
done_with v image s (Read b) frame = shown_as b v
done_with v image s (Write b) frame = done_of image s (Write b) frame
done_with v image s (Store b) frame = stored_as b v
done_with v image s (Begin b k) frame = done_of image s (Begin b k) frame
done_with v image s (Apply b k) frame = done_of image s (Apply b k) frame
done_with v image s (Transfer b) frame = done_of image s (Transfer b) frame
done_with v image s Halt frame = done_of image s Halt frame

-- what a memory command comes to in the code
unfoldable pub coded_of : List ℕ → Session → Command → List ℕ → Act
coded_of image s c frame =
    ruled (first (checks_of image s c frame)) (done_with (grant_of (access_of image (block_of c)) s.auth (column_of c) (block_of c)) image s c frame)

-- the shortcut: of a trailer whose every part may be written the whole is stored, as of a data block; the law `short_image` of `card` says that this is the same
unfoldable pub shortened : Auth → Act → Act
shortened auth (Refused n) = Refused n
shortened auth (Authenticated t l) = Authenticated t l
shortened auth (Shown b) = Shown b
shortened auth (TrailerShown b m) = TrailerShown b m
shortened auth (WriteWaits b) = WriteWaits b
shortened auth (ValueWaits b k) = ValueWaits b k
shortened auth (Stored b) = Stored b
shortened auth (TrailerStored b m) = cond ((writable_by auth m).a && (writable_by auth m).bits && (writable_by auth m).b) (Stored b) (TrailerStored b m)
shortened auth (Loaded v a) = Loaded v a
shortened auth (Moved b v a) = Moved b v a
shortened auth Halted = Halted
