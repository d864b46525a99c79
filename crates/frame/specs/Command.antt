-- What a frame asks for. A frame that asks for nothing known is what 1 refuses.
use Rattle.std.specs.Prelude.{cond, List, ℕ, eqb, get_or, length}
use Rattle.layout.specs.Layout.{block_at}
use Rattle.access.specs.declared.rights.Letter.TheVariants.{KeyA, KeyB}
use Rattle.session.specs.declared.Kind.TheVariants.{Increment, Decrement, Restore}
use Rattle.session.specs.declared.Stage.{Stage}
use Rattle.session.specs.declared.Stage.TheVariants.{Idle, WriteWaits, ValueWaits}
use Rattle.frame.specs.declared.Command.{Command}
use Rattle.frame.specs.declared.Command.TheVariants.{Unknown, Authenticate, Read, Write, Store, Begin, Apply, Transfer, Halt}

-- byte i of a frame; 0 past its end
unfoldable pub byte_in : List ℕ → ℕ → ℕ
byte_in frame i = get_or frame i 0

-- a frame of eight bytes asks for an authentication: code, block, key
unfoldable pub eight_bytes_of : ℕ → ℕ → Command
eight_bytes_of code block =
    cond (eqb code 0x60) (Authenticate (block_at block) KeyA) (cond (eqb code 0x61) (Authenticate (block_at block) KeyB) Unknown)

-- a frame of two bytes: code and block. Write and Begin are first frames; their second ones are Store and Apply
unfoldable pub two_bytes_of : ℕ → ℕ → Command
two_bytes_of code block =
    cond (eqb code 0x30) (Read (block_at block))
    (cond (eqb code 0xA0) (Write (block_at block))
    (cond (eqb code 0xC1) (Begin (block_at block) Increment)
    (cond (eqb code 0xC0) (Begin (block_at block) Decrement)
    (cond (eqb code 0xC2) (Begin (block_at block) Restore)
    (cond (eqb code 0xB0) (Transfer (block_at block))
    (cond (eqb code 0x50) (cond (eqb block 0) Halt Unknown)
    Unknown))))))

-- a first frame
unfoldable pub first_of : List ℕ → Command
first_of frame =
    cond (eqb (length frame) 8) (eight_bytes_of (byte_in frame 0) (byte_in frame 1))
    (cond (eqb (length frame) 2) (two_bytes_of (byte_in frame 0) (byte_in frame 1)) Unknown)

-- the stage says what a frame is; of a second frame nothing but the length is looked at
unfoldable pub command_of : Stage → List ℕ → Command
command_of Idle frame = first_of frame
command_of (WriteWaits b) frame = cond (eqb (length frame) 16) (Store b) Unknown
command_of (ValueWaits k b) frame = cond (eqb (length frame) 4) (Apply b k) Unknown
