-- The judgement of a frame: the refusal, or what the frame does.
use Rattle.std.specs.Prelude.{ℕ, cond, List, Err, None, Ok, Result, Some}
use Rattle.layout.specs.Layout.{sector_of, is_trailer}
use Rattle.layout.specs.declared.Block.{Block}
use Rattle.layout.specs.declared.Group.TheVariants.{Trailer}
use Rattle.memory.specs.Memory.{content_of}
use Rattle.value.specs.Block.{bits_in, address_in}
use Rattle.value.specs.Sum.{plus_of, minus_of}
use Rattle.value.specs.declared.sum.SumError.{SumError}
use Rattle.value.specs.declared.sum.SumError.TheVariants.{Negative, Outside}
use Rattle.access.specs.Bits.{group_bits}
use Rattle.session.specs.declared.Kind.{Kind}
use Rattle.session.specs.declared.Kind.TheVariants.{Increment, Decrement, Restore}
use Rattle.session.specs.Session.{Register}
use Rattle.session.specs.declared.Session.{Session}
use Rattle.frame.specs.Command.{command_of}
use Rattle.frame.specs.declared.Command.{Command}
use Rattle.frame.specs.declared.Command.TheVariants.{Unknown, Authenticate, Read, Write, Store, Begin, Apply, Transfer, Halt}
use Rattle.judge.specs.First.{first, ruled}
use Rattle.judge.specs.Checks.{access_of, checks_of, frame_checks}
use Rattle.judge.specs.declared.Act.{Act}
use Rattle.judge.specs.declared.Act.TheVariants.{Refused, Authenticated, Shown, TrailerShown, WriteWaits, ValueWaits, Stored, TrailerStored, Loaded, Moved, Halted}

-- what a value operation makes of a value; Restore leaves it, whatever its operand
unfoldable pub total_for : Kind → ℕ → ℕ → Result ℕ SumError
total_for Increment value operand = plus_of value operand
total_for Decrement value operand = minus_of value operand
total_for Restore value operand = Ok value

-- 13 where the operand is below zero, 10 where the result is out of range, else it is loaded, with the source's address byte
unfoldable pub load_of : Result ℕ SumError → ℕ → Act
load_of (Ok v) address = Loaded v address
load_of (Err Negative) address = Refused 13
load_of (Err Outside) address = Refused 10

-- what a second value frame does after its checks
unfoldable pub applied_of : List ℕ → Kind → Block → List ℕ → Act
applied_of image k b frame =
    load_of (total_for k (bits_in (content_of image b)) (bits_in frame)) (address_in (content_of image b))

-- after the checks of a Transfer: the register goes into the block (9 has refused an empty one)
unfoldable pub move_of : Register → Block → Act
move_of None b = Refused 9
move_of (Some (v, a)) b = Moved b v a

-- the bits of the trailer of a block's sector
abbrev pub trailer_bits : List ℕ → Block → ℕ
trailer_bits image b = group_bits (access_of image b) Trailer

-- a Read shows and a Write stores a data block as it is, and a trailer in its parts, as its bits say
unfoldable pub shown_of : List ℕ → Block → Act
shown_of image b = cond (is_trailer b) (TrailerShown b (trailer_bits image b)) (Shown b)

unfoldable pub stored_of : List ℕ → Block → Act
stored_of image b = cond (is_trailer b) (TrailerStored b (trailer_bits image b)) (Stored b)

-- what a command does once its checks have passed; 1 has refused an unknown one
unfoldable pub done_of : List ℕ → Session → Command → List ℕ → Act
done_of image s Unknown frame = Refused 1
done_of image s (Authenticate b l) frame = Authenticated (sector_of b) l
done_of image s (Read b) frame = shown_of image b
done_of image s (Write b) frame = WriteWaits b
done_of image s (Store b) frame = stored_of image b
done_of image s (Begin b k) frame = ValueWaits b k
done_of image s (Apply b k) frame = applied_of image k b frame
done_of image s (Transfer b) frame = move_of s.register b
done_of image s Halt frame = Halted

-- what a command comes to
unfoldable pub commanded_of : List ℕ → Session → Command → List ℕ → Act
commanded_of image s c frame = ruled (first (checks_of image s c frame)) (done_of image s c frame)

-- what a frame does
unfoldable pub judge_of : List ℕ → Session → List ℕ → Act
judge_of image s frame = ruled (first (frame_checks image s)) (commanded_of image s (command_of s.stage frame) frame)
